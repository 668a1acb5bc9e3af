-- Tables of distinct terms.
use Rattle.std.proofs.Common.{◌≡◌, ◌≢◌, ℕ, suc, ◌^◌, ◌<◌, ◌≤◌, ◌⊎◌, List, [], ◌∷◌, ◌++◌, length, refl, sym, ◌∙◌, ap, arith, inl, inr, subst, Option, Some, None, Result, Ok, Err}
use Rattle.std.specs.Prelude.{IfSome, OnOk, OnErr}
use Rattle.std.proofs.lemmas.List.{length-append, map-append, get_or_append_left}
use Rattle.std.proofs.Math.Seq.{get_or-append_seam}
use Rattle.hash_index.specs.Items.{Items, with_item, hash_at, count_to, IsNewest}
use Rattle.triples_read.specs.declared.term.Term.{Term}
use Rattle.term_table.specs.declared.entries.Entry.{Entry}
use Rattle.term_table.specs.declared.entries.TermRange.{TermRange}
use Rattle.term_table.specs.TermParts.{Parts, parts_of, term_of, hash_of}
use Rattle.term_table.specs.Entries.{no_entry, entry_at, AreWithin, HasTexts, parts_in, terms_of, IsTermTable, LackParts}
use Rattle.term_table.proofs.Stored.{range_kept}

-- ---- a search: the term isn't among those that were met

pub record IsTermSearch (arena : List ℕ) (index : Items Entry) (p : Parts) (at : Option ℕ) : Type 0 where
  pub below : count_to at ≤ length index.items
  pub has : IfSome at (λ i. hash_at index.hashes i ≡ hash_of p)
  pub rest : (j : ℕ) → j < length index.items → parts_in arena (entry_at index.items j) ≡ p → j < count_to at

parts_hash : (arena : List ℕ) (index : Items Entry) (p : Parts) → IsTermTable arena index → (j : ℕ) → j < length index.items → parts_in arena (entry_at index.items j) ≡ p → hash_at index.hashes j ≡ hash_of p
parts_hash arena index p t j h e = t.hashed j h ∙ ap hash_of e

pub search_start : (arena : List ℕ) (index : Items Entry) (p : Parts) (at : Option ℕ) → IsTermTable arena index → IsNewest index.hashes (hash_of p) (length index.hashes) at → IsTermSearch arena index p at
search_start arena index p at t w = record {
  below = rw (← t.even) w.below;
  has = w.has;
  rest = λ j h e. w.covers j (rw t.even h) (parts_hash arena index p t j h e);
}

pub search_on : (arena : List ℕ) (index : Items Entry) (p : Parts) (n : ℕ) (at : Option ℕ) → IsTermTable arena index → IsTermSearch arena index p (Some n) → parts_in arena (entry_at index.items n) ≢ p
    → IsNewest index.hashes (hash_at index.hashes n) n at → IsTermSearch arena index p at
search_on arena index p n at t w other next =
    let own : hash_at index.hashes n ≡ hash_of p = w.has in
    record {
      below = (let a = w.below in let b = next.below in omega (arith, a, b));
      has = subst (λ h. IfSome at (λ i. hash_at index.hashes i ≡ h)) own next.has;
      rest = λ j h e.
          let apart : j ≢ n = λ (s : j ≡ n). other (rw (← s) e) in
          let less : j < n = (let r = w.rest j h e in omega (arith, r, apart)) in
          next.covers j less (parts_hash arena index p t j h e ∙ sym own);
    }

pub search_end : (arena : List ℕ) (index : Items Entry) (p : Parts) → IsTermSearch arena index p None → LackParts arena index.items p
search_end arena index p w i h e = let r = w.rest i h e in omega (arith, r)

-- ---- what was stored stays where more is stored

parts_kept : (arena more : List ℕ) (e : Entry) → AreWithin (length arena) e.span → parts_in (arena ++ more) e ≡ parts_in arena e
parts_kept arena more e w =
    let u = w.text in
    let v = w.datatype in
    let x = w.tag in
    let y = w.end in
    rw (range_kept arena more e.span.from e.span.text_end u (omega (arith, v, x, y)), range_kept arena more e.span.text_end e.span.datatype_end v (omega (arith, x, y)), range_kept arena more e.span.datatype_end e.span.to x y) refl

entries_kept : (arena more : List ℕ) (es : List Entry) → ((i : ℕ) → i < length es → AreWithin (length arena) (entry_at es i).span) → terms_of (arena ++ more) es ≡ terms_of arena es
entries_kept arena more [] w = refl
entries_kept arena more (e ∷ es) w =
    λ i. (term_of (parts_kept arena more e (w 0 (omega arith)) i), e.number) ∷ entries_kept arena more es (λ j h. w (suc j) (omega (arith, h))) i

pub terms_kept : (arena more arena2 : List ℕ) (index : Items Entry) → arena2 ≡ arena ++ more → IsTermTable arena index → terms_of arena2 index.items ≡ terms_of arena index.items
terms_kept arena more arena2 index grown t = ap (λ a. terms_of a index.items) grown ∙ entries_kept arena more index.items t.within

wider : (m n : ℕ) (s : TermRange) → m ≤ n → AreWithin m s → AreWithin n s
wider m n s h w = record { text = w.text; datatype = w.datatype; tag = w.tag; end = (let e = w.end in omega (arith, h, e)) }

-- more is stored, and no entry says so
more_table : (arena more : List ℕ) (index : Items Entry) → IsTermTable arena index → length (arena ++ more) < 2 ^ 32 → IsTermTable (arena ++ more) index
more_table arena more index k short =
    let m = length-append arena more in
    let old = λ (i : ℕ) (h : i < length index.items). parts_kept arena more (entry_at index.items i) (k.within i h) in
    record {
      even = k.even;
      short = short;
      within = λ i h. wider (length arena) (length (arena ++ more)) (entry_at index.items i).span (omega (arith, m)) (k.within i h);
      hashed = λ i h. k.hashed i h ∙ ap hash_of (sym (old i h));
      proper = λ i h. ap (λ p. parts_of (term_of p)) (old i h) ∙ k.proper i h ∙ sym (old i h);
      apart = λ i j h l same. k.apart i j h l (sym (old i h) ∙ same ∙ old j l);
    }

pub table_kept : (arena more arena2 : List ℕ) (index : Items Entry) → arena2 ≡ arena ++ more → IsTermTable arena index → length arena2 < 2 ^ 32 → IsTermTable arena2 index
table_kept arena more arena2 index grown t short = subst (λ a. IsTermTable a index) (sym grown) (more_table arena more index t (subst (λ a. length a < 2 ^ 32) grown short))

lack_more : (arena more : List ℕ) (index : Items Entry) (p : Parts) → IsTermTable arena index → LackParts arena index.items p → LackParts (arena ++ more) index.items p
lack_more arena more index p k none i h e = none i h (sym (parts_kept arena more (entry_at index.items i) (k.within i h)) ∙ e)

-- ---- a new entry

-- an entry of parts that no other has
pub record IsNewTerm (arena : List ℕ) (index : Items Entry) (e : Entry) (p : Parts) (hash : ℕ) : Type 0 where
  pub within : AreWithin (length arena) e.span
  pub parts : parts_in arena e ≡ p
  pub hashed : hash ≡ hash_of p
  pub proper : parts_of (term_of p) ≡ p
  pub absent : LackParts arena index.items p

pub new_entry : (arena more arena2 : List ℕ) (index : Items Entry) (e : Entry) (q p : Parts) (hash : ℕ) → arena2 ≡ arena ++ more → IsTermTable arena index → LackParts arena index.items p
    → AreWithin (length arena2) e.span → HasTexts arena2 e.span q → e.sort ≡ q.sort → q ≡ p → hash ≡ hash_of p → parts_of (term_of p) ≡ p → IsNewTerm arena2 index e p hash
new_entry arena more arena2 index e q p hash grown k none within texts sort is hashed proper = record {
  within = within;
  parts =
      let own : parts_in arena2 e ≡ q = rw (sort, texts.text, texts.datatype, texts.tag) refl in
      own ∙ is;
  hashed = hashed;
  proper = proper;
  absent = subst (λ a. LackParts a index.items p) (sym grown) (lack_more arena more index p k none);
}

last_or_before : (es : List Entry) (e : Entry) (i : ℕ) → i < length (es ++ e ∷ []) → ((i < length es) × (entry_at (es ++ e ∷ []) i ≡ entry_at es i)) ⊎ ((i ≡ length es) × (entry_at (es ++ e ∷ []) i ≡ e))
last_or_before es e i h =
    let l = length-append es (e ∷ []) in
    let split : (i < length es) ⊎ (i ≡ length es) = grind (arith, l, h) in
    elim split [
      | inl b ↦ inl (b, get_or_append_left es (e ∷ []) no_entry i b)
      | inr s ↦ inr (s, rw s (get_or-append_seam es e [] no_entry))
    ]

table_added : (arena : List ℕ) (index : Items Entry) (e : Entry) (p : Parts) (hash : ℕ) → IsTermTable arena index → IsNewTerm arena index e p hash → IsTermTable arena (with_item index hash e)
table_added arena index e p hash k new =
    let es = index.items in
    let n = length-append es (e ∷ []) in
    let m = length-append index.hashes (hash ∷ []) in
    let even = k.even in
    let old_hash = λ (i : ℕ) (b : i < length es). get_or_append_left index.hashes (hash ∷ []) 0 i (rw even b) in
    let last_hash : hash_at (index.hashes ++ hash ∷ []) (length es) ≡ hash = rw (← even) (get_or-append_seam index.hashes hash [] 0) in
    let at = λ (d : Entry) (same : d ≡ e). ap (parts_in arena) same ∙ new.parts in
    record {
      even = omega (arith, n, m, even);
      short = k.short;
      within = λ i h. elim (last_or_before es e i h) [ inl b ↦ rw b.1 (k.within i b.0) | inr s ↦ rw s.1 new.within ];
      hashed = λ i h. elim (last_or_before es e i h) [
        | inl b ↦ rw b.1 (old_hash i b.0 ∙ k.hashed i b.0)
        | inr s ↦ rw (s.1, s.0) (last_hash ∙ new.hashed ∙ ap hash_of (sym new.parts))
      ];
      proper = λ i h. elim (last_or_before es e i h) [
        | inl b ↦ rw b.1 (k.proper i b.0)
        | inr s ↦ rw s.1 (ap (λ q. parts_of (term_of q)) new.parts ∙ new.proper ∙ sym new.parts)
      ];
      apart = λ i j h l same. elim (last_or_before es e i h) [
        | inl b ↦ elim (last_or_before es e j l) [
          | inl c ↦ k.apart i j b.0 c.0 (ap (parts_in arena) (sym b.1) ∙ same ∙ ap (parts_in arena) c.1)
          | inr s ↦ absurd (new.absent i b.0 (ap (parts_in arena) (sym b.1) ∙ same ∙ at _ s.1))
        ]
        | inr s ↦ elim (last_or_before es e j l) [
          | inl c ↦ absurd (new.absent j c.0 (ap (parts_in arena) (sym c.1) ∙ sym same ∙ at _ s.1))
          | inr u ↦ s.0 ∙ sym u.0
        ]
      ];
    }

-- ---- the table after an entry was put in, or wasn't

pub table_pushed : {E : Type 0} (r : Result ℕ E) (arena : List ℕ) (old new : Items Entry) (e : Entry) (p : Parts) (hash : ℕ) → IsTermTable arena old → IsNewTerm arena old e p hash
    → OnOk r (new ≡ with_item old hash e) → OnErr r (new ≡ old) → IsTermTable arena new
table_pushed (Ok n) arena old new e p hash t is ok err = subst (IsTermTable arena) (sym ok) (table_added arena old e p hash t is)
table_pushed (Err x) arena old new e p hash t is ok err = subst (IsTermTable arena) (sym err) t

terms_added : (arena more arena2 : List ℕ) → arena2 ≡ arena ++ more → (index : Items Entry) (e : Entry) (p : Parts) (hash : ℕ) → IsTermTable arena index → IsNewTerm arena2 index e p hash
    → terms_of arena2 (index.items ++ e ∷ []) ≡ terms_of arena index.items ++ (term_of p, e.number) ∷ []
terms_added arena more arena2 grown index e p hash k is =
    map-append (λ (d : Entry). (term_of (parts_in arena2 d), d.number)) index.items (e ∷ [])
    ∙ (λ i. terms_kept arena more arena2 index grown k i ++ (term_of (is.parts i), e.number) ∷ [])

pub terms_pushed : {E : Type 0} (r : Result ℕ E) (arena more arena2 : List ℕ) → arena2 ≡ arena ++ more → (old new : Items Entry) (e : Entry) (p : Parts) (hash : ℕ) (x : Term) → IsTermTable arena old → IsNewTerm arena2 old e p hash
    → term_of p ≡ x → OnOk r (new ≡ with_item old hash e) → OnOk r (terms_of arena2 new.items ≡ terms_of arena old.items ++ (x, e.number) ∷ [])
terms_pushed (Ok n) arena more arena2 grown old new e p hash x t is own ok =
    ap (λ i. terms_of arena2 i.items) ok ∙ terms_added arena more arena2 grown old e p hash t is ∙ ap (λ y. terms_of arena old.items ++ (y, e.number) ∷ []) own
terms_pushed (Err y) arena more arena2 grown old new e p hash x t is own ok = tt

pub terms_left : {E : Type 0} (r : Result ℕ E) (arena more arena2 : List ℕ) → arena2 ≡ arena ++ more → (old new : Items Entry) → IsTermTable arena old → OnErr r (new ≡ old)
    → OnErr r (terms_of arena2 new.items ≡ terms_of arena old.items)
terms_left (Ok n) arena more arena2 grown old new t err = tt
terms_left (Err x) arena more arena2 grown old new t err = ap (λ i. terms_of arena2 i.items) err ∙ terms_kept arena more arena2 old grown t
