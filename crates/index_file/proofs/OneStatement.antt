-- A line says one thing at most.
use Rattle.std.proofs.Common.{◌≡◌, ℕ, ◌<◌, ◌≤◌, List, [], ◌∷◌, ◌++◌, take, drop, true, false, true≢false, refl, sym, ◌∙◌, ap, subst, arith, inl, inr}
use Rattle.std.specs.Prelude.{codes, ◌==◌, nat_le, if◌then◌else◌, slice_index_or}
use Rattle.std.specs.List.{list_all, prefix_len}
use Rattle.std.specs.Char.{is_ascii_digit}
use Rattle.std.proofs.lemmas.Bool.{cases_Bool, and_parts, leb-true}
use Rattle.std.proofs.lemmas.Bool.{ne_eqb}
use Rattle.graph_spec.specs.Members.{has}
use Rattle.graph_spec.proofs.MemberLaws.{has_cases, has_head, has_tail}
use Rattle.path_query.specs.Labels.{SpellsLabel}
use Rattle.path_query.proofs.LabelLaws.{label_one}
use Rattle.index_api.specs.declared.kinds.Via.{Via}
use Rattle.index_api.specs.declared.kinds.Via.TheVariants.{Data, A, One, Fb, B}
use Rattle.index_file.specs.Statements.{Statement, title, allocated, live, gone, edges, edge, views, view, rank, Says, HasPrefix, AreNumbers, IsNumber, NamesIndex}
use Rattle.index_file.proofs.DecimalLaws.{digits_of, some_one, decimal_first}
use Rattle.index_file.proofs.WordLaws.{behind_one, number_parts}

-- the byte at that place, and 0 past the end
abbrev byte : List ℕ → ℕ → ℕ
byte line i = slice_index_or line i 0

-- what a line says can be told by a few of its bytes
abbrev sort : List ℕ → ℕ
sort line =
    if byte line 0 == 112 then 0
    else (if byte line 0 == 103 then (if byte line 1 == 105 then 1 else 3)
    else (if byte line 0 == 108 then 2
    else (if byte line 0 == 101 then 4
    else (if byte line 0 == 118 then (if byte line 4 == 32 then 7 else 6)
    else (if has line 32 then 5 else 8)))))

abbrev sort_of : Statement → ℕ
sort_of title = 0
sort_of (allocated n k) = 1
sort_of (live t) = 2
sort_of gone = 3
sort_of (edges m) = 4
sort_of (edge u v) = 5
sort_of (views n) = 6
sort_of (view via) = 7
sort_of (rank r) = 8

-- digits first
digit_sort : (d : ℕ) (ds : List ℕ) → is_ascii_digit d ≡ true → sort (d ∷ ds) ≡ (if has (d ∷ ds) 32 then 5 else 8)
digit_sort d ds h =
    let high = leb-true d 57 (and_parts (nat_le 48 d) (nat_le d 57) h).1 in
    rw (other d 112 high (omega arith), other d 103 high (omega arith), other d 108 high (omega arith), other d 101 high (omega arith), other d 118 high (omega arith)) refl
  where
    other : (x c : ℕ) → x ≤ 57 → 57 < c → (x == c) ≡ false
    other x c l m = ne_eqb x c (λ e. omega (arith, e, l, m))

-- digits hold no space (32)
no_space : (ds : List ℕ) → list_all is_ascii_digit ds ≡ true → has ds 32 ≡ false
no_space [] h = refl
no_space (d ∷ ds) h =
    let p = and_parts (is_ascii_digit d) (list_all is_ascii_digit ds) h in
    let low = leb-true 48 d (and_parts (nat_le 48 d) (nat_le d 57) p.0).0 in
    elim (cases_Bool (has (d ∷ ds) 32)) [
      | inl on ↦ elim (has_cases d ds 32 on) [ inl e ↦ absurd (omega (arith, e, low)) | inr t ↦ absurd (true≢false (sym t ∙ no_space ds p.1)) ]
      | inr off ↦ off
    ]

space_behind : (a b : List ℕ) → has (a ++ 32 ∷ b) 32 ≡ true
space_behind [] b = has_head 32 b
space_behind (d ∷ ds) b = has_tail d (ds ++ 32 ∷ b) 32 (space_behind ds b)

sorted : (line : List ℕ) (s : Statement) → Says line s → sort line ≡ sort_of s
sorted line title e = ap sort e
sorted line (allocated n k) (rest, e, h) = ap sort e
sorted line (live t) (rest, e, h) = ap sort e
sorted line gone e = ap sort e
sorted line (edges m) (rest, e, h) = ap sort e
sorted line (edge u v) (a, b, e, p, q) = ap sort e ∙ by_first a b (decimal_first a u p)
  where
    by_first : (a b : List ℕ) → (d : ℕ) × (ds : List ℕ) × (a ≡ d ∷ ds) × (is_ascii_digit d ≡ true) → sort (a ++ 32 ∷ b) ≡ 5
    by_first a b (d, ds, is, h) = ap (λ x. sort (x ++ 32 ∷ b)) is ∙ digit_sort d (ds ++ 32 ∷ b) h ∙ (rw (space_behind (d ∷ ds) b) refl)
sorted line (views n) (rest, e, h) = ap sort e
sorted line (view via) (rest, e, h) = ap sort e
sorted line (rank r) p = by_first (decimal_first line r p)
  where
    by_first : (d : ℕ) × (ds : List ℕ) × (line ≡ d ∷ ds) × (is_ascii_digit d ≡ true) → sort line ≡ 8
    by_first (d, ds, is, h) = ap sort is ∙ digit_sort d ds h ∙ (rw (no_space (d ∷ ds) (subst (λ x. list_all is_ascii_digit x ≡ true) is (digits_of line r p))) refl)

one_number : (digits : List ℕ) (n m : ℕ) → IsNumber digits n → IsNumber digits m → n ≡ m
one_number digits n m p q = some_one m n (sym q ∙ p)

one_behind : (word line : List ℕ) (n m : ℕ) → HasPrefix word line (λ digits. IsNumber digits n) → HasPrefix word line (λ digits. IsNumber digits m) → n ≡ m
one_behind word line n m (x, e, p) (y, f, q) = one_number x n m p (subst (λ d. IsNumber d m) (behind_one word y x (sym f ∙ e)) q)

heads : (x y : ℕ) (xs ys : List ℕ) → x ∷ xs ≡ y ∷ ys → x ≡ y
heads x y xs ys e = cc

one_index : (word : List ℕ) (v w : Via) → NamesIndex word v → NamesIndex word w → v ≡ w
one_index word Data w p q = absurd p
one_index word (A level) Data p q = absurd q
one_index word (A level) (A high) (x, e, p) (y, f, q) = ap A (one_number x level high p (subst (λ d. IsNumber d high) (behind_one (codes "a") y x (sym f ∙ e)) q))
one_index word (A level) One (x, e, p) q = absurd (let z = heads 97 111 x (codes "ne") (sym e ∙ q) in omega (arith, z))
one_index word (A level) Fb (x, e, p) q = absurd (let z = heads 97 102 x (codes "b") (sym e ∙ q) in omega (arith, z))
one_index word (A level) (B high) (x, e, p) (y, f, q) = absurd (let z = heads 97 98 x y (sym e ∙ f) in omega (arith, z))
one_index word One Data p q = absurd q
one_index word One (A high) p (y, f, q) = absurd (let z = heads 97 111 y (codes "ne") (sym f ∙ p) in omega (arith, z))
one_index word One One p q = refl
one_index word One Fb p q = absurd (let z = heads 111 102 (codes "ne") (codes "b") (sym p ∙ q) in omega (arith, z))
one_index word One (B high) p (y, f, q) = absurd (let z = heads 98 111 y (codes "ne") (sym f ∙ p) in omega (arith, z))
one_index word Fb Data p q = absurd q
one_index word Fb (A high) p (y, f, q) = absurd (let z = heads 97 102 y (codes "b") (sym f ∙ p) in omega (arith, z))
one_index word Fb One p q = absurd (let z = heads 111 102 (codes "ne") (codes "b") (sym q ∙ p) in omega (arith, z))
one_index word Fb Fb p q = refl
one_index word Fb (B high) p (y, f, q) = absurd (let z = heads 98 102 y (codes "b") (sym f ∙ p) in omega (arith, z))
one_index word (B level) Data p q = absurd q
one_index word (B level) (A high) (x, e, p) (y, f, q) = absurd (let z = heads 98 97 x y (sym e ∙ f) in omega (arith, z))
one_index word (B level) One (x, e, p) q = absurd (let z = heads 98 111 x (codes "ne") (sym e ∙ q) in omega (arith, z))
one_index word (B level) Fb (x, e, p) q = absurd (let z = heads 98 102 x (codes "b") (sym e ∙ q) in omega (arith, z))
one_index word (B level) (B high) (x, e, p) (y, f, q) = ap B (one_number x level high p (subst (λ d. IsNumber d high) (behind_one (codes "b") y x (sym f ∙ e)) q))

one_word : (line t u : List ℕ) → HasPrefix (codes "live ") line (λ word. SpellsLabel word t) → HasPrefix (codes "live ") line (λ word. SpellsLabel word u) → t ≡ u
one_word line t u (x, e, p) (y, f, q) = label_one x t u p (subst (λ w. SpellsLabel w u) (behind_one (codes "live ") y x (sym f ∙ e)) q)

one_view : (line : List ℕ) (v w : Via) → HasPrefix (codes "view ") line (λ word. NamesIndex word v) → HasPrefix (codes "view ") line (λ word. NamesIndex word w) → v ≡ w
one_view line v w (x, e, p) (y, f, q) = one_index x v w p (subst (λ d. NamesIndex d w) (behind_one (codes "view ") y x (sym f ∙ e)) q)

-- two numbers with a word between them that begins with a space
one_pair : (word text more : List ℕ) (n m i j : ℕ) → word ≡ 32 ∷ more → AreNumbers word text n m → AreNumbers word text i j → (n ≡ i) × (m ≡ j)
one_pair word text more n m i j space (a, b, e, p, q) (c, d, f, r, s) =
    let x = number_parts text word (take (prefix_len is_ascii_digit text) text) (drop (prefix_len is_ascii_digit text) text) a b more _ space refl refl refl e (digits_of a n p) in
    let y = number_parts text word (take (prefix_len is_ascii_digit text) text) (drop (prefix_len is_ascii_digit text) text) c d more _ space refl refl refl f (digits_of c i r) in (
      one_number a n i p (subst (λ z. IsNumber z i) (sym y.0 ∙ x.0) r),
      one_number b m j q (subst (λ z. IsNumber z j) (behind_one word d b (sym y.1 ∙ x.1)) s),
    )

one_given : (line : List ℕ) (n k i j : ℕ) → HasPrefix (codes "given ") line (λ rest. AreNumbers (codes " k ") rest n k)
    → HasPrefix (codes "given ") line (λ rest. AreNumbers (codes " k ") rest i j) → (n ≡ i) × (k ≡ j)
one_given line n k i j (x, e, p) (y, f, q) =
    one_pair (codes " k ") x (codes "k ") n k i j refl p (subst (λ z. AreNumbers (codes " k ") z i j) (behind_one (codes "given ") y x (sym f ∙ e)) q)

same_sort : (line : List ℕ) (s t : Statement) → sort_of s ≡ sort_of t → Says line s → Says line t → s ≡ t
same_sort line title title e p q = refl
same_sort line title (allocated n2 k2) e p q = absurd (omega (arith, e))
same_sort line title (live t2) e p q = absurd (omega (arith, e))
same_sort line title gone e p q = absurd (omega (arith, e))
same_sort line title (edges m2) e p q = absurd (omega (arith, e))
same_sort line title (edge u2 v2) e p q = absurd (omega (arith, e))
same_sort line title (views n2) e p q = absurd (omega (arith, e))
same_sort line title (view via2) e p q = absurd (omega (arith, e))
same_sort line title (rank r2) e p q = absurd (omega (arith, e))
same_sort line (allocated n k) title e p q = absurd (omega (arith, e))
same_sort line (allocated n k) (allocated n2 k2) e p q = (let w = one_given line n k n2 k2 p q in ap (λ x. allocated x k) w.0 ∙ ap (λ x. allocated n2 x) w.1)
same_sort line (allocated n k) (live t2) e p q = absurd (omega (arith, e))
same_sort line (allocated n k) gone e p q = absurd (omega (arith, e))
same_sort line (allocated n k) (edges m2) e p q = absurd (omega (arith, e))
same_sort line (allocated n k) (edge u2 v2) e p q = absurd (omega (arith, e))
same_sort line (allocated n k) (views n2) e p q = absurd (omega (arith, e))
same_sort line (allocated n k) (view via2) e p q = absurd (omega (arith, e))
same_sort line (allocated n k) (rank r2) e p q = absurd (omega (arith, e))
same_sort line (live t) title e p q = absurd (omega (arith, e))
same_sort line (live t) (allocated n2 k2) e p q = absurd (omega (arith, e))
same_sort line (live t) (live t2) e p q = ap live (one_word line t t2 p q)
same_sort line (live t) gone e p q = absurd (omega (arith, e))
same_sort line (live t) (edges m2) e p q = absurd (omega (arith, e))
same_sort line (live t) (edge u2 v2) e p q = absurd (omega (arith, e))
same_sort line (live t) (views n2) e p q = absurd (omega (arith, e))
same_sort line (live t) (view via2) e p q = absurd (omega (arith, e))
same_sort line (live t) (rank r2) e p q = absurd (omega (arith, e))
same_sort line gone title e p q = absurd (omega (arith, e))
same_sort line gone (allocated n2 k2) e p q = absurd (omega (arith, e))
same_sort line gone (live t2) e p q = absurd (omega (arith, e))
same_sort line gone gone e p q = refl
same_sort line gone (edges m2) e p q = absurd (omega (arith, e))
same_sort line gone (edge u2 v2) e p q = absurd (omega (arith, e))
same_sort line gone (views n2) e p q = absurd (omega (arith, e))
same_sort line gone (view via2) e p q = absurd (omega (arith, e))
same_sort line gone (rank r2) e p q = absurd (omega (arith, e))
same_sort line (edges m) title e p q = absurd (omega (arith, e))
same_sort line (edges m) (allocated n2 k2) e p q = absurd (omega (arith, e))
same_sort line (edges m) (live t2) e p q = absurd (omega (arith, e))
same_sort line (edges m) gone e p q = absurd (omega (arith, e))
same_sort line (edges m) (edges m2) e p q = ap edges (one_behind (codes "edges ") line m m2 p q)
same_sort line (edges m) (edge u2 v2) e p q = absurd (omega (arith, e))
same_sort line (edges m) (views n2) e p q = absurd (omega (arith, e))
same_sort line (edges m) (view via2) e p q = absurd (omega (arith, e))
same_sort line (edges m) (rank r2) e p q = absurd (omega (arith, e))
same_sort line (edge u v) title e p q = absurd (omega (arith, e))
same_sort line (edge u v) (allocated n2 k2) e p q = absurd (omega (arith, e))
same_sort line (edge u v) (live t2) e p q = absurd (omega (arith, e))
same_sort line (edge u v) gone e p q = absurd (omega (arith, e))
same_sort line (edge u v) (edges m2) e p q = absurd (omega (arith, e))
same_sort line (edge u v) (edge u2 v2) e p q = (let w = one_pair (codes " ") line [] u v u2 v2 refl p q in ap (λ x. edge x v) w.0 ∙ ap (λ x. edge u2 x) w.1)
same_sort line (edge u v) (views n2) e p q = absurd (omega (arith, e))
same_sort line (edge u v) (view via2) e p q = absurd (omega (arith, e))
same_sort line (edge u v) (rank r2) e p q = absurd (omega (arith, e))
same_sort line (views n) title e p q = absurd (omega (arith, e))
same_sort line (views n) (allocated n2 k2) e p q = absurd (omega (arith, e))
same_sort line (views n) (live t2) e p q = absurd (omega (arith, e))
same_sort line (views n) gone e p q = absurd (omega (arith, e))
same_sort line (views n) (edges m2) e p q = absurd (omega (arith, e))
same_sort line (views n) (edge u2 v2) e p q = absurd (omega (arith, e))
same_sort line (views n) (views n2) e p q = ap views (one_behind (codes "views ") line n n2 p q)
same_sort line (views n) (view via2) e p q = absurd (omega (arith, e))
same_sort line (views n) (rank r2) e p q = absurd (omega (arith, e))
same_sort line (view via) title e p q = absurd (omega (arith, e))
same_sort line (view via) (allocated n2 k2) e p q = absurd (omega (arith, e))
same_sort line (view via) (live t2) e p q = absurd (omega (arith, e))
same_sort line (view via) gone e p q = absurd (omega (arith, e))
same_sort line (view via) (edges m2) e p q = absurd (omega (arith, e))
same_sort line (view via) (edge u2 v2) e p q = absurd (omega (arith, e))
same_sort line (view via) (views n2) e p q = absurd (omega (arith, e))
same_sort line (view via) (view via2) e p q = ap view (one_view line via via2 p q)
same_sort line (view via) (rank r2) e p q = absurd (omega (arith, e))
same_sort line (rank r) title e p q = absurd (omega (arith, e))
same_sort line (rank r) (allocated n2 k2) e p q = absurd (omega (arith, e))
same_sort line (rank r) (live t2) e p q = absurd (omega (arith, e))
same_sort line (rank r) gone e p q = absurd (omega (arith, e))
same_sort line (rank r) (edges m2) e p q = absurd (omega (arith, e))
same_sort line (rank r) (edge u2 v2) e p q = absurd (omega (arith, e))
same_sort line (rank r) (views n2) e p q = absurd (omega (arith, e))
same_sort line (rank r) (view via2) e p q = absurd (omega (arith, e))
same_sort line (rank r) (rank r2) e p q = ap rank (one_number line r r2 p q)

pub one_statement : (line : List ℕ) (s t : Statement) → Says line s → Says line t → s ≡ t
one_statement line s t p q = same_sort line s t (sym (sorted line s p) ∙ sorted line t q) p q
