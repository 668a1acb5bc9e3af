-- Each view of the file of a graph and of its indexes fits the graph in the file.
use Rattle.std.proofs.Common.{◌≡◌, ◌≢◌, ℕ, zero, suc, ◌<◌, List, [], ◌∷◌, length, Option, Some, true, true≢false, refl, sym, ◌∙◌, ap, subst, arith, inl, inr}
use Rattle.std.specs.Prelude.{slice_get}
use Rattle.graph_spec.specs.Graphs.{Graph}
use Rattle.graph_spec.specs.Shapes.{Shape, shape_of}
use Rattle.graph_spec.specs.Members.{at}
use Rattle.bisim_spec.specs.Partitions.{Together, IsPartition, Agrees}
use Rattle.bisim_spec.specs.Stability.{Stable, merged}
use Rattle.bisim_spec.proofs.Bisimilar.{some_of, is_some_at}
use Rattle.bisim_spec.proofs.Together.{together_at, merged_keeps, merged_a, merged_b, merged_cases, merged_partition}
use Rattle.index_api.specs.declared.kinds.Via.{Via}
use Rattle.index_api.specs.declared.kinds.Via.TheVariants.{Data, A, One, Fb, B}
use Rattle.index_api.specs.IndexKinds.{KeptIndexes, is_kept, Relates}
use Rattle.index_file.specs.SavedFiles.{SavedFile, SavedView}
use Rattle.index_file.specs.FittingViews.{IsStableMinimal, IsPartitionVia, FitsSaved, FitsView}
use Rattle.index_file.specs.SavedIndexes.{SavesFile}
use Rattle.index_file.specs.WholeFiles.{IsFileOf, CanBeSaved, IsIndexFile}
use Rattle.index_file.proofs.OneFile.{one_file}
use Rattle.index_file.proofs.KeptFiles.{saved_spelled}
use Rattle.index_file.proofs.ReadSpelled.{spelled_read}

-- ---- stable and minimal are said of which nodes are in one block, however blocks are numbered

stable_as : (s : Shape) (p q : List (Option ℕ)) → IsPartition s q → ((u v : ℕ) → Together p u v → Together q u v) → ((u v : ℕ) → Together q u v → Together p u v)
    → Stable s p → Stable s q
stable_as s p q part to from st = record {
  partition = part;
  label = λ u v nu nv t. st.label u v nu nv (from u v t);
  parents = λ u v nu nv t x e. let y = st.parents u v nu nv (from u v t) x e in (y.0, y.1, to x y.0 y.2);
}

merge_as : (p q : List (Option ℕ)) (a b c d u v : ℕ) → ((x y : ℕ) → Together p x y → Together q x y) → at p u ≡ Some a → at p v ≡ Some b → at q u ≡ Some c → at q v ≡ Some d
    → (x y : ℕ) → Together (merged a b p) x y → Together (merged c d q) x y
merge_as p q a b c d u v to eu ev fu fv x y t = elim (merged_cases a b p x y t) [
  | inl same ↦ merged_keeps c d q x y (to x y same)
  | inr (inl both) ↦ (c, merged_a c d q x (as_u x both.0), merged_b c d q y (as_v y both.1))
  | inr (inr both) ↦ (c, merged_b c d q x (as_v x both.0), merged_a c d q y (as_u y both.1))
]
  where
    as_u : (n : ℕ) → at p n ≡ Some a → at q n ≡ Some c
    as_u n e = together_at q u n c (to u n (a, eu, e)) fu

    as_v : (n : ℕ) → at p n ≡ Some b → at q n ≡ Some d
    as_v n e = together_at q v n d (to v n (b, ev, e)) fv

some_one : (a b : ℕ) → Some a ≡ Some b → a ≡ b
some_one a b e = cc

-- a partition that groups the nodes as a stable and minimal one does is so too
same_groups : (s : Shape) (one block : List (Option ℕ)) → Agrees s block (Together one) → IsStableMinimal s one → IsStableMinimal s block
same_groups s one block a m = record {
  stable = stable_as s one block a.partition to from m.stable;
  minimal = record { apart = apart };
}
  where
    from : (u v : ℕ) → Together block u v → Together one u v
    from = a.related

    to : (u v : ℕ) → Together one u v → Together block u v
    to u v t = a.grouped u v (m.stable.partition.only u (is_some_at (at one u) t.0 t.1)) (m.stable.partition.only v (is_some_at (at one v) t.0 t.2)) t

    apart : (u v x y : ℕ) → at block u ≡ Some x → at block v ≡ Some y → x ≢ y → Stable s (merged x y block) → ⊥
    apart u v x y eu ev ne can =
        let c = some_of (at one u) (m.stable.partition.live u (a.partition.only u (is_some_at (at block u) x eu))) in
        let d = some_of (at one v) (m.stable.partition.live v (a.partition.only v (is_some_at (at block v) y ev))) in
        let differ : c.0 ≢ d.0 = λ e. ne (some_one x y (sym (together_at block u v x (to u v (c.0, c.1, d.1 ∙ ap Some (sym e))) eu) ∙ ev)) in
        m.minimal.apart u v c.0 d.0 c.1 d.1 differ
        (stable_as s (merged x y block) (merged c.0 d.0 one) (merged_partition s c.0 d.0 one m.stable.partition)
        (merge_as block one x y c.0 d.0 u v from eu ev c.1 d.1) (merge_as one block c.0 d.0 x y u v to c.1 d.1 eu ev) can)

-- ---- each view fits

fits_via : (g : Graph) (kept : KeptIndexes) → CanBeSaved g kept → (via : Via) (block : List (Option ℕ)) → is_kept kept via ≡ true → Agrees (shape_of g) block (Relates g kept via)
    → IsPartitionVia (shape_of g) via block
fits_via g kept can Data block h a = absurd (true≢false (sym h))
fits_via g kept can (A level) block h a = a
fits_via g kept can One block h a = same_groups (shape_of g) kept.one block a (can.one h)
fits_via g kept can Fb block h a = a
fits_via g kept can (B level) block h a = a

view_there : (views : List SavedView) (j : ℕ) → j < length views → (v : SavedView) × (slice_get views j ≡ Some v)
view_there [] j h = absurd (omega (arith, h))
view_there (v ∷ views) zero h = (v, refl)
view_there (v ∷ views) (suc j) h = view_there views j (omega (arith, h))

pub each_fits : (g : Graph) (kept : KeptIndexes) (file : SavedFile) → CanBeSaved g kept → IsFileOf g kept file → (j : ℕ) → j < length file.views → FitsView file j
each_fits g kept file can f j h =
    let v = view_there file.views j h in
    let k = f.views j v.0 v.1 in
    subst (FitsSaved file) (sym v.1)
    (subst (λ s. IsPartitionVia s v.0.via v.0.block_of) (sym (ap shape_of f.graph)) (fits_via g kept can v.0.via v.0.block_of k.there k.agrees))

-- The theorem on what is saved.
pub saved_whole : (g : Graph) (kept : KeptIndexes) (text : List ℕ) → CanBeSaved g kept → SavesFile g kept text → IsIndexFile g kept text
saved_whole g kept text can saves =
    let s = saved_spelled g kept text can saves in
    record {
      file = s.0;
      spelled = s.1;
      only = λ other h. one_file text other s.0 h s.1;
      reads = λ limits within. spelled_read limits text s.0 s.1 within;
      holds = s.2;
      fits = each_fits g kept s.0 can s.2;
    }
