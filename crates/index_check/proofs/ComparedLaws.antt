-- Lists that are compared by the first number with each value.
use Rattle.std.proofs.Common.{◌≡◌, ◌≢◌, ℕ, ◌+◌, ◌<◌, List, Option, Some, None, sym, ◌∙◌, ap, arith, inl, inr, length, set, get_or-set_same, get_or-set_other}
use Rattle.std.proofs.lemmas.Bool.{cases_lt}
use Rattle.graph_spec.specs.Members.{at}
use Rattle.index_check.specs.ComparedLists.{Determines, AreCompared}

pub compared_start : (keys values first : List (Option ℕ)) → ((b f : ℕ) → at first b ≡ Some f → ⊥) → AreCompared keys values 0 first
compared_start keys values first none = record {
  found = λ m b h e. absurd (omega (arith, h));
  stands = λ b f e. absurd (none b f e);
  same = λ m b f h e k. absurd (omega (arith, h));
}

-- a number without a value changes nothing
pub compared_none : (keys values first : List (Option ℕ)) (n : ℕ) → AreCompared keys values n first → at keys n ≡ None → AreCompared keys values (n + 1) first
compared_none keys values first n w none = record {
  found = λ m b h e. elim (cases_lt m n) [
    | inl before ↦ w.found m b before e
    | inr past ↦ (let here : m ≡ n = omega (arith, h, past) in let z = ap (at keys) here in absurd (cc))
  ];
  stands = w.stands;
  same = λ m b f h e k. elim (cases_lt m n) [
    | inl before ↦ w.same m b f before e k
    | inr past ↦ (let here : m ≡ n = omega (arith, h, past) in let z = ap (at keys) here in absurd (cc))
  ];
}

-- nor does one whose value was compared, where the second values agree
pub compared_again : (keys values first : List (Option ℕ)) (n b f : ℕ) → AreCompared keys values n first → at keys n ≡ Some b → at first b ≡ Some f
    → at values f ≡ at values n → AreCompared keys values (n + 1) first
compared_again keys values first n b f w key compared agree = record {
  found = λ m c h e. elim (cases_lt m n) [
    | inl before ↦ w.found m c before e
    | inr past ↦ (let here : m ≡ n = omega (arith, h, past) in
        let z = ap (at keys) here in
        let one : b ≡ c = cc in
        (f, ap (at first) (sym one) ∙ compared))
  ];
  stands = w.stands;
  same = λ m c x h e k. elim (cases_lt m n) [
    | inl before ↦ w.same m c x before e k
    | inr past ↦ (let here : m ≡ n = omega (arith, h, past) in
        let z = ap (at keys) here in
        let one : b ≡ c = cc in
        let y = ap (at first) one in
        let last : f ≡ x = cc in
        ap (at values) here ∙ sym agree ∙ ap (at values) last)
  ];
}

-- one with a new value is compared for it
pub compared_new : (keys values first : List (Option ℕ)) (n b : ℕ) → AreCompared keys values n first → at keys n ≡ Some b → at first b ≡ None → b < length first
    → AreCompared keys values (n + 1) (set first b (Some n))
compared_new keys values first n b w key none within =
    let new : List (Option ℕ) = set first b (Some n) in
    let same_at : at new b ≡ Some n = get_or-set_same first b (Some n) None within in
    let outer_block_at : (c : ℕ) → c ≢ b → at new c ≡ at first c = λ c ne. get_or-set_other first b c (Some n) None ne in
    record {
      found = λ m c h e. elim (cases_lt m n) [
        | inl before ↦
            (let old = w.found m c before e in
            let ne : c ≢ b = λ one. (let z = ap (at first) one in let y = old.1 in absurd (cc)) in
            (old.0, outer_block_at c ne ∙ old.1))
        | inr past ↦ (let here : m ≡ n = omega (arith, h, past) in
            let z = ap (at keys) here in
            let one : c ≡ b = cc in
            (n, ap (at new) one ∙ same_at))
      ];
      stands = λ c f e. stands_new c f e;
      same = λ m c f h e k. same_new m c f h e k;
    }
  where
    stands_new : (c f : ℕ) → at (set first b (Some n)) c ≡ Some f → at keys f ≡ Some c
    stands_new c f e = elim (cases_lt c b) [
      | inl l ↦ w.stands c f (sym (get_or-set_other first b c (Some n) None (λ x. omega (arith, l, x))) ∙ e)
      | inr m ↦ elim (cases_lt b c) [
        | inl l ↦ w.stands c f (sym (get_or-set_other first b c (Some n) None (λ x. omega (arith, l, x))) ∙ e)
        | inr k ↦ (let one : c ≡ b = omega (arith, m, k) in
            let z = get_or-set_same first b (Some n) None within in
            let y = ap (at (set first b (Some n))) one in
            let f_is : n ≡ f = cc in
            ap (at keys) (sym f_is) ∙ key ∙ ap Some (sym one))
      ]
    ]

    same_new : (m c f : ℕ) → m < n + 1 → at keys m ≡ Some c → at (set first b (Some n)) c ≡ Some f → at values m ≡ at values f
    same_new m c f h e k = elim (cases_lt m n) [
      | inl before ↦
          (let old = w.found m c before e in
          let ne : c ≢ b = λ one. (let z = ap (at first) one in let y = old.1 in absurd (cc)) in
          w.same m c f before e (sym (get_or-set_other first b c (Some n) None ne) ∙ k))
      | inr past ↦ (let here : m ≡ n = omega (arith, h, past) in
          let z = ap (at keys) here in
          let one : c ≡ b = cc in
          let y = ap (at (set first b (Some n))) one in
          let x = get_or-set_same first b (Some n) None within in
          let f_is : f ≡ n = cc in
          ap (at values) (here ∙ sym f_is))
    ]

pub compared_determines : (keys values first : List (Option ℕ)) (n : ℕ) → AreCompared keys values n first → ((m b : ℕ) → at keys m ≡ Some b → m < n) → Determines keys values
compared_determines keys values first n w all = λ u v b e f.
    let x = w.found u b (all u b e) e in
    w.same u b x.0 (all u b e) e x.1 ∙ sym (w.same v b x.0 (all v b f) f x.1)

pub compared_refutes : (keys values first : List (Option ℕ)) (n b f : ℕ) → AreCompared keys values n first → at keys n ≡ Some b → at first b ≡ Some f
    → at values f ≢ at values n → Determines keys values → ⊥
compared_refutes keys values first n b f w key compared differ d = differ (d f n b (w.stands b f compared) key)
