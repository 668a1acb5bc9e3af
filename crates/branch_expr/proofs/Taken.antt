-- Nodes that are taken by runs of numbers.
use Rattle.std.proofs.Common.{◌≡◌, ◌↔◌, ◌⊎◌, inl, inr, ℕ, ◌+◌, ◌<◌, ◌≤◌, Bool, true, false, true≢false, List, [], ◌∷◌, length, take, get_or, Option, None, Some, refl, sym, ap, subst, ◌∙◌, arith, IsTrue}
use Rattle.std.specs.Prelude.{◌||◌, is_some, nat_eq, IsSome}
use Rattle.std.proofs.lemmas.Bool.{cases_lt}
use Rattle.std.proofs.lemmas.Bool.Decides.{eqb_tells}
use Rattle.std.proofs.lemmas.List.{take_more}
use Rattle.std.proofs.lemmas.List.Folds.{list_any-append}
use Rattle.graph_spec.specs.Members.{has}
use Rattle.path_automaton.specs.NewMarks.{Passes}
use Rattle.branch_expr.proofs.Steps.{Filtered}

pub passing_node : (label_at : ℕ → Option ℕ) (test : Option ℕ) (n : ℕ) → Passes label_at test n → IsSome (label_at n)
passing_node label_at None n h = h
passing_node label_at (Some l) n h = ap is_some h

module _ (P : ℕ → Type 0) where
  -- the nodes of a run at which it holds
  abbrev pub OfRun : List ℕ → ℕ → ℕ → Type 0
  OfRun run from to = (m : ℕ) → IsTrue (has run m) ↔ ((from ≤ m) × (m < to) × P m)

  pub put_run : (now new run : List ℕ) (from to : ℕ) → from < to → OfRun run from to → ((m : ℕ) → IsTrue (has now m) ↔ ((m < from) × P m))
      → ((m : ℕ) → IsTrue (has new m) ↔ (IsTrue (has now m) ⊎ IsTrue (has run m))) → (m : ℕ) → IsTrue (has new m) ↔ ((m < to) × P m)
  put_run now new run from to more tells before put m = (
    λ h. elim ((put m).0 h) [
      | inl was ↦ (let p = (before m).0 was in let low = p.0 in (omega (arith, low, more), p.1))
      | inr here ↦ (let p = (tells m).0 here in (p.1, p.2))
    ],
    λ p. elim (cases_lt m from) [ inl low ↦ (put m).1 (inl ((before m).1 (low, p.1))) | inr past ↦ (put m).1 (inr ((tells m).1 (past, p.0, p.1))) ],
  )

  pub led_run : (edge : ℕ → ℕ → Bool) (now new run : List ℕ) (from to : ℕ) → from < to → OfRun run from to
      → ((c : ℕ) → IsTrue (has now c) ↔ ((v : ℕ) × (v < from) × P v × IsTrue (edge v c)))
      → ((c : ℕ) → IsTrue (has new c) ↔ (IsTrue (has now c) ⊎ ((v : ℕ) × IsTrue (has run v) × IsTrue (edge v c))))
      → (c : ℕ) → IsTrue (has new c) ↔ ((v : ℕ) × (v < to) × P v × IsTrue (edge v c))
  led_run edge now new run from to more tells before put c = (
    λ h. elim ((put c).0 h) [
      | inl was ↦ (let p = (before c).0 was in let low = p.1 in (p.0, omega (arith, low, more), p.2, p.3))
      | inr here ↦ (let p = (tells here.0).0 here.1 in (here.0, p.1, p.2, here.2))
    ],
    λ p. elim (cases_lt p.0 from) [
      | inl low ↦ (put c).1 (inl ((before c).1 (p.0, low, p.2, p.3)))
      | inr past ↦ (put c).1 (inr (p.0, (tells p.0).1 (past, p.1, p.2), p.3))
    ],
  )

  pub spared_run : (edge : ℕ → ℕ → Bool) (old now new run : List ℕ) (from to : ℕ) → from < to → OfRun run from to
      → ((c : ℕ) → IsTrue (has now c) ↔ (IsTrue (has old c) × (((v : ℕ) × (v < from) × P v × IsTrue (edge v c)) → ⊥)))
      → ((c : ℕ) → IsTrue (has new c) ↔ (IsTrue (has now c) × (((v : ℕ) × IsTrue (has run v) × IsTrue (edge v c)) → ⊥)))
      → (c : ℕ) → IsTrue (has new c) ↔ (IsTrue (has old c) × (((v : ℕ) × (v < to) × P v × IsTrue (edge v c)) → ⊥))
  spared_run edge old now new run from to more tells before left c = (
    λ h.
        let p = (left c).0 h in
        let q = (before c).0 p.0 in
        (q.0, λ led. elim (cases_lt led.0 from) [ inl low ↦ q.1 (led.0, low, led.2, led.3) | inr past ↦ p.1 (led.0, (tells led.0).1 (past, led.1, led.2), led.3) ]),
    λ p. (left c).1 (
      (before c).1 (p.0, λ led. let low = led.1 in p.1 (led.0, omega (arith, low, more), led.2, led.3)),
      λ led. let here = (tells led.0).0 led.1 in p.1 (led.0, here.1, here.2, led.2),
    ),
  )

-- of the members of a run those stay at which it holds
pub filtered_run : (P : ℕ → Type 0) (old now new run : List ℕ) (from to : ℕ) → from < to → OfRun (λ m. IsTrue (has now m)) run from to → Filtered P old now from
    → ((m : ℕ) → IsTrue (has new m) ↔ (IsTrue (has now m) × (IsTrue (has run m) → P m))) → Filtered P old new to
filtered_run P old now new run from to more tells before left m = (
  λ h.
      let p = (left m).0 h in
      let q = (before m).0 p.0 in (
        q.0,
        elim q.1 [
          | inl past ↦ elim (cases_lt m to) [ inl low ↦ inr (p.1 ((tells m).1 (past, low, p.0))) | inr behind ↦ inl behind ]
          | inr holds ↦ inr holds
        ],
      ),
  λ p. (left m).1 (
    (before m).1 (p.0, elim p.1 [ inl behind ↦ inl (omega (arith, more, behind)) | inr holds ↦ inr holds ]),
    λ r. elim p.1 [ inl behind ↦ absurd (let low = ((tells m).0 r).1 in omega (arith, low, behind)) | inr holds ↦ holds ],
  ),
)

-- one more of a list

either : (a b : Bool) → IsTrue (a || b) → IsTrue a ⊎ IsTrue b
either true b h = inl h
either false b h = inr h

or_first : (a b : Bool) → IsTrue a → IsTrue (a || b)
or_first true b h = h
or_first false b h = absurd (true≢false (sym h))

or_second : (a b : Bool) → IsTrue b → IsTrue (a || b)
or_second true b h = refl
or_second false b h = h

listed_more : (xs : List ℕ) (i v : ℕ) → i < length xs → IsTrue (has (take (i + 1) xs) v) ↔ (IsTrue (has (take i xs) v) ⊎ (v ≡ get_or xs i 0))
listed_more xs i v within =
    let x = get_or xs i 0 in
    let both : has (take (i + 1) xs) v ≡ (has (take i xs) v || (nat_eq v x || false)) = ap (λ l. has l v) (take_more xs i 0 within) ∙ list_any-append (nat_eq v) (take i xs) (x ∷ []) in (
      λ h. elim (either (has (take i xs) v) (nat_eq v x || false) (sym both ∙ h)) [
        | inl was ↦ inl was
        | inr last ↦ elim (eqb_tells v x) [
          | inl same ↦ inr same.1
          | inr apart ↦ absurd (true≢false (sym last ∙ ap (λ b. b || false) apart.0))
        ]
      ],
      λ p. both ∙ elim p [
        | inl was ↦ or_first (has (take i xs) v) (nat_eq v x || false) was
        | inr last ↦ or_second (has (take i xs) v) (nat_eq v x || false) (or_first (nat_eq v x) false (is_last x last))
      ],
    )
  where
    is_last : (x : ℕ) → v ≡ x → IsTrue (nat_eq v x)
    is_last x h = elim (eqb_tells v x) [ inl same ↦ same.0 | inr apart ↦ absurd (apart.1 h) ]

pub led_more : (edge : ℕ → ℕ → Bool) (old now new nodes : List ℕ) (i : ℕ) → i < length nodes
    → ((c : ℕ) → IsTrue (has now c) ↔ (IsTrue (has old c) ⊎ ((v : ℕ) × IsTrue (has (take i nodes) v) × IsTrue (edge v c))))
    → ((c : ℕ) → IsTrue (has new c) ↔ (IsTrue (has now c) ⊎ IsTrue (edge (get_or nodes i 0) c)))
    → (c : ℕ) → IsTrue (has new c) ↔ (IsTrue (has old c) ⊎ ((v : ℕ) × IsTrue (has (take (i + 1) nodes) v) × IsTrue (edge v c)))
led_more edge old now new nodes i within before put c = (
  λ h. elim ((put c).0 h) [
    | inl was ↦ elim ((before c).0 was) [ inl first ↦ inl first | inr p ↦ inr (p.0, (listed_more nodes i p.0 within).1 (inl p.1), p.2) ]
    | inr led ↦ inr (get_or nodes i 0, (listed_more nodes i (get_or nodes i 0) within).1 (inr refl), led)
  ],
  λ q. elim q [
    | inl first ↦ (put c).1 (inl ((before c).1 (inl first)))
    | inr p ↦ elim ((listed_more nodes i p.0 within).0 p.1) [
      | inl was ↦ (put c).1 (inl ((before c).1 (inr (p.0, was, p.2))))
      | inr last ↦ (put c).1 (inr (subst (λ v. IsTrue (edge v c)) last p.2))
    ]
  ],
)

pub spared_more : (edge : ℕ → ℕ → Bool) (old now new nodes : List ℕ) (i : ℕ) → i < length nodes
    → ((c : ℕ) → IsTrue (has now c) ↔ (IsTrue (has old c) × (((v : ℕ) × IsTrue (has (take i nodes) v) × IsTrue (edge v c)) → ⊥)))
    → ((c : ℕ) → IsTrue (has new c) ↔ (IsTrue (has now c) × (IsTrue (edge (get_or nodes i 0) c) → ⊥)))
    → (c : ℕ) → IsTrue (has new c) ↔ (IsTrue (has old c) × (((v : ℕ) × IsTrue (has (take (i + 1) nodes) v) × IsTrue (edge v c)) → ⊥))
spared_more edge old now new nodes i within before left c = (
  λ h.
      let p = (left c).0 h in
      let q = (before c).0 p.0 in (
        q.0,
        λ led. elim ((listed_more nodes i led.0 within).0 led.1) [
          | inl was ↦ q.1 (led.0, was, led.2)
          | inr last ↦ p.1 (subst (λ v. IsTrue (edge v c)) last led.2)
        ],
      ),
  λ p. (left c).1 (
    (before c).1 (p.0, λ led. p.1 (led.0, (listed_more nodes i led.0 within).1 (inl led.1), led.2)),
    λ led. p.1 (get_or nodes i 0, (listed_more nodes i (get_or nodes i 0) within).1 (inr refl), led),
  ),
)
