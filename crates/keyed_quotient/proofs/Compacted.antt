-- Keys that are carried over to new numbers.
use Rattle.std.proofs.Common.{◌≡◌, ℕ, zero, suc, ◌+◌, ◌<◌, ◌≤◌, ◌⊎◌, List, [], ◌∷◌, ◌++◌, length, count_by, Option, Some, None, IsSome, is_some, false, true≢false, slice_get, refl, sym, ◌∙◌, ap, subst, arith, inl, inr}
use Rattle.std.proofs.lemmas.Bool.{cases_lt}
use Rattle.std.proofs.lemmas.List.Sums.{count_by_more_yes, count_by_more_no}
use Rattle.std.proofs.lemmas.Option.{slice_get_within}
use Rattle.std.proofs.Math.Seq.{take-length}
use Rattle.graph_spec.specs.Members.{at}
use Rattle.bisim_spec.proofs.Bisimilar.{some_of}
use Rattle.key_table.specs.NumberedKeys.{AreDistinct, Interns}
use Rattle.keyed_quotient.specs.KeyedQuotients.{key_at}
use Rattle.keyed_quotient.specs.Numberings.{Numbering, numbered_key, block_keys, Leads, IsNumbering, Grows, Gives}
use Rattle.keyed_quotient.specs.CarriedKeys.{AreCarried, AreFew}
use Rattle.keyed_quotient.proofs.AddedKeys.{set_length, given_here, given_there}
use Rattle.keyed_quotient.proofs.Grown.{keys_alike, leads_grown}
use Rattle.keyed_quotient.proofs.Numbered.{same_some, leads_key, block_there, key_there, numbering_keyed}

pub carried_none : (labels : List (Option ℕ)) (old new : Numbering) → length new.table ≡ 0 → length labels ≤ length new.number_of → AreCarried labels old new 0
carried_none labels old new none span = record {
  distinct = record { apart = λ i j key e f. (let within = slice_get_within new.table i key e in absurd (omega (arith, within, none))) };
  fits = omega (arith, none);
  span = span;
  leads = λ c key h e. absurd (omega (arith, h));
  only = λ k key e. (let within = slice_get_within new.table k key e in absurd (omega (arith, within, none)));
  count = none;
}

-- what a list with one more at its end has at a place
get_either : {X : Type 0} (xs : List X) (x : X) (i : ℕ) (y : X) → slice_get (xs ++ x ∷ []) i ≡ Some y → (slice_get xs i ≡ Some y) ⊎ (y ≡ x)
get_either [] x zero y e = inr (sym (same_some x y e))
get_either [] x (suc i) y e = absurd (true≢false (sym (ap is_some e)))
get_either (z ∷ xs) x zero y e = inl e
get_either (z ∷ xs) x (suc i) y e = get_either xs x i y e

length_more : {X : Type 0} (xs : List X) (x : X) → length (xs ++ x ∷ []) ≡ length xs + 1
length_more [] x = refl
length_more (z ∷ xs) x = (let rest = length_more xs x in omega (arith, rest))

-- the key of the next block is absent, so it stands behind the others
carried_push : (labels : List (Option ℕ)) (old now : Numbering) (table : List (List ℕ)) (b k : ℕ) (key : List ℕ) → IsNumbering labels old → key_at (block_keys labels old) b ≡ Some key → AreCarried labels old now b
    → Interns now.table table key k → table ≡ now.table ++ key ∷ []
carried_push labels old now table b k key n e w (inl had) =
    let c = w.only k key had.0 in
    let same : c.0 ≡ b = (numbering_keyed labels old n).apart c.0 b key c.2 e in
    let below = c.1 in
    absurd (omega (arith, same, below))
carried_push labels old now table b k key n e w (inr put) = put.2

-- with the key of the next block
pub carried_next : (labels : List (Option ℕ)) (old now known new : Numbering) (b k : ℕ) (key : List ℕ) → IsNumbering labels old → b < length labels → IsSome (at labels b) → numbered_key old b ≡ Some key
    → AreCarried labels old now b → Grows now known → AreDistinct known.table → length known.table ≤ length known.block_of → known.number_of ≡ now.number_of → Interns now.table known.table key k
    → Gives key b known new → AreCarried labels old new (b + 1)
carried_next labels old now known new b k key n within live numbered w grows distinct fits numbers interns g =
    let l = n.blocks b live in
    let key_same : l.1 ≡ key = same_some l.1 key (sym (leads_key old l.0 b l.1 l.2) ∙ numbered) in
    let here : key_at (block_keys labels old) b ≡ Some key = key_there labels old l.0 b key live (subst (λ (x : List ℕ). Leads old l.0 b x) key_same l.2) in
    let keyed = numbering_keyed labels old n in
    let pushed = carried_push labels old now known.table b k key n here w interns in
    let tables : length new.table ≡ length known.table = ap (λ (xs : List (List ℕ)). length xs) g.table in
    let longer : length known.table ≡ length now.table + 1 = ap (λ (xs : List (List ℕ)). length xs) pushed ∙ length_more now.table key in
    let blocks : length new.block_of ≡ length known.block_of = ap (λ (xs : List ℕ). length xs) g.block_of ∙ set_length known.block_of g.k b in
    let spans : length new.number_of ≡ length known.number_of = ap (λ (xs : List ℕ). length xs) g.number_of ∙ set_length known.number_of b g.k in
    let stays : length known.number_of ≡ length now.number_of = ap (λ (xs : List ℕ). length xs) numbers in
    let span = w.span in
    let count = w.count in
    let more = count_by_more_yes is_some labels b None within live in
    record {
      distinct = subst AreDistinct (sym g.table) distinct;
      fits = omega (arith, tables, blocks, fits);
      span = omega (arith, spans, stays, span);
      leads = λ c x h e. elim (cases_lt c b) [
        | inl before ↦
            (let m = w.leads c x before e in (
              m.0,
              given_there known new b m.0 c key x g (λ same. omega (arith, before, same))
                  (λ same. (let f : c ≡ b = keyed.apart c b key (subst (λ (y : List ℕ). key_at (block_keys labels old) c ≡ Some y) same e) here in omega (arith, before, f)))
                  (leads_grown now known m.0 c x grows m.1),
            ))
        | inr past ↦
            (let at_b : c ≡ b = omega (arith, h, past) in
            let same : key ≡ x = same_some key x (sym here ∙ ap (key_at (block_keys labels old)) (sym at_b) ∙ e) in
            subst (λ (m : ℕ). (i : ℕ) × Leads new i m x) (sym at_b)
            (subst (λ (y : List ℕ). (i : ℕ) × Leads new i b y) same (given_here known new b key fits (omega (arith, within, stays, span)) g)))
      ];
      only = λ i x e. elim (get_either now.table key i x (sym (ap (λ (xs : List (List ℕ)). slice_get xs i) (g.table ∙ pushed)) ∙ e)) [
        | inl before ↦ (let c = w.only i x before in let below = c.1 in (c.0, omega (arith, below), c.2))
        | inr same ↦ (b, omega arith, here ∙ ap Some (sym same))
      ];
      count = omega (arith, tables, longer, count, more);
    }

-- past a number that is no block
pub carried_past : (labels : List (Option ℕ)) (old now : Numbering) (b : ℕ) → b < length labels → is_some (at labels b) ≡ false → AreCarried labels old now b → AreCarried labels old now (b + 1)
carried_past labels old now b within none w =
    let count = w.count in
    let more = count_by_more_no is_some labels b None within none in
    record {
      distinct = w.distinct;
      fits = w.fits;
      span = w.span;
      leads = λ c x h e. elim (cases_lt c b) [
        | inl before ↦ w.leads c x before e
        | inr past ↦
            (let at_b : c ≡ b = omega (arith, h, past) in
            absurd (true≢false (sym (block_there labels old c x e) ∙ ap (λ n. is_some (at labels n)) at_b ∙ none)))
      ];
      only = λ k x e. (let c = w.only k x e in let below = c.1 in (c.0, omega (arith, below), c.2));
      count = omega (arith, count, more);
    }

some_below : (labels : List (Option ℕ)) (b : ℕ) → IsSome (at labels b) → b < length labels
some_below [] b h = absurd (true≢false (sym h))
some_below (x ∷ xs) zero h = omega arith
some_below (x ∷ xs) (suc b) h = (let rest = some_below xs b h in omega (arith, rest))

-- once all keys of blocks are carried over, the new numbers serve as the old ones did
pub carried_numbering : (labels : List (Option ℕ)) (old new : Numbering) → IsNumbering labels old → AreCarried labels old new (length labels) → IsNumbering labels new
carried_numbering labels old new n w = record {
  distinct = w.distinct;
  fits = w.fits;
  blocks = λ b h.
      (let key = some_of (key_at (block_keys labels old) b) ((numbering_keyed labels old n).exactly b ∙ h) in
      let l = w.leads b key.0 (some_below labels b h) key.1 in
      (l.0, key.0, l.1));
}

pub carried_keys : (labels : List (Option ℕ)) (old new : Numbering) → IsNumbering labels old → AreCarried labels old new (length labels) → block_keys labels new ≡ block_keys labels old
carried_keys labels old new n w = keys_alike (numbered_key new) (numbered_key old) 0 labels (λ b h.
    let e : 0 + b ≡ b = omega arith in
    let m = n.blocks b h in
    let l = w.leads b m.1 (some_below labels b h) (key_there labels old m.0 b m.1 h m.2) in
    subst (λ i. numbered_key new i ≡ numbered_key old i) (sym e) (leads_key new l.0 b m.1 l.1 ∙ sym (leads_key old m.0 b m.1 m.2)))

pub carried_few : (labels : List (Option ℕ)) (old new : Numbering) → AreCarried labels old new (length labels) → AreFew (length new.table) (count_by is_some labels) (length labels)
carried_few labels old new w =
    let same : length new.table ≡ count_by is_some labels = w.count ∙ ap (count_by is_some) (take-length labels) in
    inr (omega (arith, same))
