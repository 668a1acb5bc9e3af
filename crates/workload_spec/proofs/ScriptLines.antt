-- Each line of a made script spells a command.
use Rattle.std.proofs.Common.{◌≡◌, ◌≢◌, ◌∙◌, ◌<◌, ◌≤◌, ◌+◌, ◌/◌, ◌^◌, ℕ, zero, suc, Bool, cond, true, List, [], ◌∷◌, ◌++◌, length, length-append, append_assoc, filter, refl, sym, ap, arith, lit<, inl}
use Rattle.std.specs.Prelude.{codes, decimal, not, ◌==◌}
use Rattle.std.specs.List.{list_all, slice_split}
use Rattle.std.proofs.lemmas.Bool.{ne_eqb}
use Rattle.std.proofs.lemmas.Fmt.{decimal_digit, length-decimal-le}
use Rattle.std.proofs.Math.Nat.{mod-lt}
use Rattle.change_spec.specs.Steps.{node, link, unlink}
use Rattle.graph_spec.specs.Words.{is_blank, is_name, node_word, words}
use Rattle.index_api.specs.declared.kinds.Via.TheVariants.{Data, A, One, Fb}
use Rattle.script_read.specs.Commands.{Command, change, begin, end, path, branch, sizes, IsSpelled}
use Rattle.script_read.proofs.CommandLemmas.{keyword, lead, begins, no_query}
use Rattle.workload.specs.Generator.{drawn, number_at, state_after}
use Rattle.workload.specs.MadeTexts.{edge_line, label_line, last_lines, steps_onto}
use Rattle.workload_spec.proofs.Plain.{all_linked, ink_node, is_ink, is_plain, last_split, plain_ink, word_split}
use Rattle.workload_spec.proofs.Queries.{deep_path, deep_spelled, denied, denied_spelled, long_path, long_spelled, plain_letter}

-- the command is neither the first nor the last line of a group
abbrev pub StandsAlone : Command → Type 0
StandsAlone begin = ⊥
StandsAlone end = ⊥
StandsAlone c = Unit {0}

-- a command on a short line
pub record IsProperLine (line : List ℕ) : Type 0 where
  pub plain : list_all is_plain line ≡ true
  pub short : length line ≤ 100
  pub command : Command
  pub alone : StandsAlone command
  pub spelled : IsSpelled line command

-- such a line is neither the first nor the last of a group
pub line_alone : (line : List ℕ) → IsProperLine line → (¬ IsSpelled line begin) × (¬ IsSpelled line end)
line_alone line p = (
  λ b. (apart p.command p.alone).0 (ap lead (sym (begins line p.command p.spelled) ∙ begins line begin b)),
  λ e. (apart p.command p.alone).1 (ap lead (sym (begins line p.command p.spelled) ∙ begins line end e)),
)
  where
    apart : (c : Command) → StandsAlone c → (lead (keyword c) ≢ lead (codes "begin")) × (lead (keyword c) ≢ lead (codes "end"))
    apart (change x) a = ((no_query x).no_begin, (no_query x).no_end)
    apart begin a = absurd a
    apart end a = absurd a
    apart c a = (λ e. omega (arith, e), λ e. omega (arith, e))

abbrev pub AreProper : List (List ℕ) → Type 0
AreProper [] = Unit {0}
AreProper (l ∷ ls) = IsProperLine l × AreProper ls

-- words that are kept
abbrev filled : List ℕ → Bool
filled w = not (length w == 0)

filled_cons : (b : ℕ) (bs : List ℕ) → filled (b ∷ bs) ≡ true
filled_cons b bs = ap not (ne_eqb (length (b ∷ bs)) 0 (λ e. omega (arith, e)))

keep_prefix : (b : ℕ) (bs : List ℕ) (ws : List (List ℕ)) → filter filled ((b ∷ bs) ∷ ws) ≡ (b ∷ bs) ∷ filter filled ws
keep_prefix b bs ws = ap (λ t. cond t ((b ∷ bs) ∷ filter filled ws) (filter filled ws)) (filled_cons b bs)

kept_words : (w : List ℕ) (u v : ℕ) → filled w ≡ true → filter filled (w ∷ node_word u ∷ node_word v ∷ []) ≡ w ∷ node_word u ∷ node_word v ∷ []
kept_words w u v h =
    ap (λ t. cond t (w ∷ filter filled (node_word u ∷ node_word v ∷ [])) (filter filled (node_word u ∷ node_word v ∷ []))) h
    ∙ ap (λ ws. w ∷ ws) (keep_prefix 110 (decimal u) (node_word v ∷ []) ∙ ap (λ ws. node_word u ∷ ws) (keep_prefix 110 (decimal v) []))

-- ---- edges

-- the three words of a line
split_words : (w a b : List ℕ) → list_all is_ink w ≡ true → list_all is_ink a ≡ true → list_all is_ink b ≡ true
    → slice_split is_blank (w ++ 32 ∷ (a ++ 32 ∷ b)) ≡ w ∷ a ∷ b ∷ []
split_words w a b f g h =
    word_split w (a ++ 32 ∷ b) f ∙ ap (λ ws. w ∷ ws) (word_split a b g ∙ ap (λ ws. a ∷ ws) (last_split b h))

line_is : (w a b : List ℕ) → w ++ codes " " ++ a ++ codes " " ++ b ≡ w ++ 32 ∷ (a ++ 32 ∷ b)
line_is w a b = go (codes " ") refl
  where
    go : (s : List ℕ) → s ≡ codes " " → w ++ s ++ a ++ s ++ b ≡ w ++ (s ++ (a ++ (s ++ b)))
    go s e = simp append_assoc refl

link_words : (u v : ℕ) → u < 2 ^ 64 → v < 2 ^ 64 → words (edge_line (codes "link") u v) ≡ codes "link" ∷ node_word u ∷ node_word v ∷ []
link_words u v f g =
    ap words (line_is (codes "link") (node_word u) (node_word v))
    ∙ ap (filter filled) (split_words (codes "link") (node_word u) (node_word v) refl (ink_node u f) (ink_node v g))
    ∙ kept_words (codes "link") u v refl

unlink_words : (u v : ℕ) → u < 2 ^ 64 → v < 2 ^ 64 → words (edge_line (codes "unlink") u v) ≡ codes "unlink" ∷ node_word u ∷ node_word v ∷ []
unlink_words u v f g =
    ap words (line_is (codes "unlink") (node_word u) (node_word v))
    ∙ ap (filter filled) (split_words (codes "unlink") (node_word u) (node_word v) refl (ink_node u f) (ink_node v g))
    ∙ kept_words (codes "unlink") u v refl

edge_plain : (w : List ℕ) (u v : ℕ) → list_all is_plain w ≡ true → u < 2 ^ 64 → v < 2 ^ 64 → list_all is_plain (edge_line w u v) ≡ true
edge_plain w u v h f g =
    all_linked is_plain (w ++ codes " " ++ node_word u ++ codes " ") (node_word v)
    (all_linked is_plain (w ++ codes " " ++ node_word u) (codes " ")
    (all_linked is_plain (w ++ codes " ") (node_word u) (all_linked is_plain w (codes " ") h refl) (plain_ink (node_word u) (ink_node u f))) refl)
    (plain_ink (node_word v) (ink_node v g))

node_short : (u : ℕ) → u < 2 ^ 32 → length (node_word u) ≤ 21
node_short u h = let d : length (decimal u) ≤ 20 = length-decimal-le 20 u (omega arith) (omega (arith, h)) (omega (arith, h)) in omega (arith, d)

edge_short : (w : List ℕ) (u v : ℕ) → length w ≤ 10 → u < 2 ^ 32 → v < 2 ^ 32 → length (edge_line w u v) ≤ 100
edge_short w u v h f g =
    let e = ap length (line_is w (node_word u) (node_word v)) in
    let c = length-append w (32 ∷ (node_word u ++ 32 ∷ node_word v)) in
    let d = length-append (node_word u) (32 ∷ node_word v) in
    let a = node_short u f in
    let b = node_short v g in
    omega (arith, e, c, d, a, b, h)

wide : (u : ℕ) → u < 2 ^ 32 → u < 2 ^ 64
wide u h = omega (arith, h)

pub link_proper : (u v : ℕ) → u < 2 ^ 32 → v < 2 ^ 32 → IsProperLine (edge_line (codes "link") u v)
link_proper u v f g = record {
  plain = edge_plain (codes "link") u v refl (wide u f) (wide v g);
  short = edge_short (codes "link") u v (omega arith) f g;
  command = change (link u v);
  alone = tt;
  spelled = (link_words u v (wide u f) (wide v g), f, g);
}

pub unlink_proper : (u v : ℕ) → u < 2 ^ 32 → v < 2 ^ 32 → IsProperLine (edge_line (codes "unlink") u v)
unlink_proper u v f g = record {
  plain = edge_plain (codes "unlink") u v refl (wide u f) (wide v g);
  short = edge_short (codes "unlink") u v (omega arith) f g;
  command = change (unlink u v);
  alone = tt;
  spelled = (unlink_words u v (wide u f) (wide v g), f, g);
}

-- ---- labels

digit_label : (d : ℕ) → is_name (103 ∷ d ∷ []) ≡ true → is_ink d ≡ true → IsProperLine (codes "node g" ++ d ∷ [])
digit_label d name ink = record {
  plain = all_linked is_plain (codes "node g") (d ∷ []) refl (plain_ink (d ∷ []) (rw ink refl));
  short = omega arith;
  command = change (node (103 ∷ d ∷ []));
  alone = tt;
  spelled = (
    103 ∷ d ∷ [],
    ap (filter filled) (word_split (codes "node") (103 ∷ d ∷ []) refl ∙ ap (λ ws. codes "node" ∷ ws) (last_split (103 ∷ d ∷ []) (rw ink refl))),
    inl (plain_letter d name, refl),
  );
}

below_four : (g : ℕ) → g < 4 → IsProperLine (codes "node g" ++ decimal g)
below_four zero h = rw (decimal_digit 0 (lit< tt)) (digit_label 48 refl refl)
below_four (suc zero) h = rw (decimal_digit 1 (lit< tt)) (digit_label 49 refl refl)
below_four (suc (suc zero)) h = rw (decimal_digit 2 (lit< tt)) (digit_label 50 refl refl)
below_four (suc (suc (suc zero))) h = rw (decimal_digit 3 (lit< tt)) (digit_label 51 refl refl)
below_four (suc (suc (suc (suc g)))) h = absurd (omega (arith, h))

drawn_below : (x m : ℕ) → 0 < m → number_at x m < m
unfolding number_at
drawn_below x m h = mod-lt (x / 2 ^ 33) h

pub label_proper : (x : ℕ) → IsProperLine (label_line x)
label_proper x = below_four (drawn 1 4 x) (drawn_below (state_after 1 x) 4 (lit< tt))

-- ---- the lines

steps_proper : (nodes n new x : ℕ) (lines : List (List ℕ)) → 0 < nodes → nodes ≤ 2 ^ 32 → new + n ≤ 2 ^ 32 → AreProper lines
    → AreProper (steps_onto nodes n new x lines)
steps_proper nodes zero new x lines some fit space rest = rest
steps_proper nodes (suc n) new x lines some fit space rest =
    let first = drawn_below (state_after 2 x) nodes some in
    let second = drawn_below (state_after 3 x) nodes some in
    let here : new < 2 ^ 32 = omega (arith, space) in
    let a : drawn 2 nodes x < 2 ^ 32 = omega (arith, first, fit) in
    let b : drawn 3 nodes x < 2 ^ 32 = omega (arith, second, fit) in
    let more = steps_proper nodes n (new + 1) (state_after 3 x) lines some fit (omega (arith, space)) rest in
    (label_proper x, (link_proper new (drawn 2 nodes x) here a, (link_proper new (drawn 3 nodes x) here b, (unlink_proper new (drawn 2 nodes x) here a, more))))

level_word : codes "a2" ≡ 97 ∷ decimal 2
level_word = ap (λ d. 97 ∷ d) (sym (decimal_digit 2 (lit< tt)))

last_proper : AreProper last_lines
last_proper = (
  record { plain = refl; short = omega arith; command = sizes; alone = tt; spelled = refl },
  (
    record { plain = refl; short = omega arith; command = path Data long_path; alone = tt; spelled = ((refl, refl, tt), long_spelled) },
    (
      record { plain = refl; short = omega arith; command = path (A 2) long_path; alone = tt; spelled = ((refl, level_word, lit< tt), long_spelled) },
      (
        record { plain = refl; short = omega arith; command = path One long_path; alone = tt; spelled = ((refl, refl, tt), long_spelled) },
        (
          record { plain = refl; short = omega arith; command = path Fb long_path; alone = tt; spelled = ((refl, refl, tt), long_spelled) },
          (
            record { plain = refl; short = omega arith; command = path Data deep_path; alone = tt; spelled = ((refl, refl, tt), deep_spelled) },
            (
              record { plain = refl; short = omega arith; command = path (A 2) deep_path; alone = tt; spelled = ((refl, level_word, lit< tt), deep_spelled) },
              (
                record { plain = refl; short = omega arith; command = path One deep_path; alone = tt; spelled = ((refl, refl, tt), deep_spelled) },
                (
                  record { plain = refl; short = omega arith; command = path Fb deep_path; alone = tt; spelled = ((refl, refl, tt), deep_spelled) },
                  (
                    record { plain = refl; short = omega arith; command = branch Data denied; alone = tt; spelled = ((refl, refl, tt), denied_spelled) },
                    (
                      record { plain = refl; short = omega arith; command = branch (A 2) denied; alone = tt; spelled = ((refl, level_word, lit< tt), denied_spelled) },
                      (
                        record { plain = refl; short = omega arith; command = branch One denied; alone = tt; spelled = ((refl, refl, tt), denied_spelled) },
                        (
                          record { plain = refl; short = omega arith; command = branch Fb denied; alone = tt; spelled = ((refl, refl, tt), denied_spelled) },
                          tt,
                        ),
                      ),
                    ),
                  ),
                ),
              ),
            ),
          ),
        ),
      ),
    ),
  ),
)

-- each line of a script for a graph of at least one node, in which 500 more numbers can be allocated
pub script_lines : (nodes x : ℕ) → 0 < nodes → nodes + 500 ≤ 2 ^ 32 → AreProper (steps_onto nodes 500 nodes x last_lines)
script_lines nodes x some space = steps_proper nodes 500 nodes x last_lines some (omega (arith, space)) space last_proper
