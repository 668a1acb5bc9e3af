-- Each line of a picture is one line, in which each quoted text ends.
use Rattle.std.proofs.Common.{◌≡◌, ℕ, ◌<◌, ◌≤◌, Bool, true, false, List, [], ◌∷◌, ◌++◌, ◌||◌, ◌&&◌, ◌-◌, length, refl, sym, ◌∙◌, ap, arith, inl, inr, append_assoc, true≢false}
use Rattle.std.specs.Prelude.{if◌then◌else◌, nat_eq, nat_lt, codes, decimal}
use Rattle.std.specs.List.{flat_map}
use Rattle.std.proofs.lemmas.Bool.{ltb-false}
use Rattle.std.proofs.lemmas.Bool.Decides.{eqb_tells}
use Rattle.std.proofs.lemmas.List.Folds.{list_any-append}
use Rattle.graph_spec.specs.Graphs.{Graph, has_edge}
use Rattle.graph_spec.specs.Members.{has}
use Rattle.graph_spec.specs.Words.{node_word}
use Rattle.block_partition.specs.LabelledPartitions.{Partition, is_member}
use Rattle.quotient.specs.Quotients.{Quotient}
use Rattle.index_picture.specs.declared.blocks.Block.{Block}
use Rattle.index_picture.specs.declared.pairs.Pair.{Pair}
use Rattle.index_picture.specs.QuotedTexts.{quoted_byte, quoted, Reading, outside, inside, escaped, read_byte, read_text}
use Rattle.index_picture.specs.ShownNames.{short_label, node_name}
use Rattle.index_picture.specs.DrawnBlocks.{firsts_below, covers, labels_used}
use Rattle.index_picture.specs.Pictures.{colour_of, label_text, count_text, others_text, members_text, more_text, nodes_text, box_text, block_front, block_back, block_line, support_text, dash_text, arrow_text, pair_line, left_text, is_whole, note_line, head_text, tail_text}
use Rattle.index_picture.specs.PictureLaws.{IsLine, HasLines}

pub read_append : (r : Reading) (a b : List ℕ) → read_text r (a ++ b) ≡ read_text (read_text r a) b
read_append r [] b = refl
read_append r (x ∷ a) b = read_append (read_byte r x) a b

-- the text leads from the one state to the other, and has no LF
pub record Leads (r s : Reading) (t : List ℕ) : Type 0 where
  pub there : read_text r t ≡ s
  pub unbroken : has t 10 ≡ false

leads_on : (r s u : Reading) (a b : List ℕ) → Leads r s a → Leads s u b → Leads r u (a ++ b)
leads_on r s u a b x y = record {
  there = read_append r a b ∙ ap (λ q. read_text q b) x.there ∙ y.there;
  unbroken = list_any-append (nat_eq 10) a b ∙ ap (λ q. q || has b 10) x.unbroken ∙ y.unbroken;
}

nothing : (r : Reading) → Leads r r []
nothing r = record { there = refl; unbroken = refl }

if_leads : (r : Reading) (c : Bool) (a b : List ℕ) → Leads r r a → Leads r r b → Leads r r (if c then a else b)
if_leads r true a b x y = x
if_leads r false a b x y = y

all_lead : {X : Type 0} (r : Reading) (f : X → List ℕ) → ((x : X) → Leads r r (f x)) → (xs : List X) → Leads r r (flat_map f xs)
all_lead r f h [] = nothing r
all_lead r f h (x ∷ xs) = leads_on r r r (f x) (flat_map f xs) (h x) (all_lead r f h xs)

no_break : (b : ℕ) → 32 ≤ b → nat_eq 10 b ≡ false
no_break b l = elim (eqb_tells 10 b) [ inl s ↦ absurd (let e = s.1 in omega (arith, l, e)) | inr a ↦ a.0 ]

-- what is written for a byte, by what the tests say of it
abbrev written : ℕ → Bool → Bool → Bool → Bool → List ℕ
written b q s a c = if q || s then 92 ∷ b ∷ [] else if a then codes "&amp;" else if c then 32 ∷ [] else b ∷ []

byte_there : (b : ℕ) (q s a c : Bool) → nat_eq b 34 ≡ q → nat_eq b 92 ≡ s → read_text inside (written b q s a c) ≡ inside
byte_there b true s a c e f = refl
byte_there b false true a c e f = refl
byte_there b false false true c e f = refl
byte_there b false false false true e f = refl
byte_there b false false false false e f =
    ap (λ x. if x then outside else (if nat_eq b 92 then escaped else inside)) e ∙ ap (λ x. if x then escaped else inside) f

at_least : (b n : ℕ) → 32 ≤ n → nat_eq b n ≡ true → 32 ≤ b
at_least b n l e = elim (eqb_tells b n) [ inl s ↦ (let h = s.1 in omega (arith, l, h)) | inr a ↦ absurd (true≢false (sym e ∙ a.0)) ]

or_no : (x : Bool) → x ≡ false → (x || false) ≡ false
or_no x e = ap (λ y. y || false) e

pair_no : (b : ℕ) → 32 ≤ b → has (92 ∷ b ∷ []) 10 ≡ false
pair_no b l = or_no (nat_eq 10 b) (no_break b l)

byte_unbroken : (b : ℕ) (q s a c : Bool) → nat_eq b 34 ≡ q → nat_eq b 92 ≡ s → nat_lt b 32 ≡ c → has (written b q s a c) 10 ≡ false
byte_unbroken b true s a c e f g = pair_no b (at_least b 34 (omega arith) e)
byte_unbroken b false true a c e f g = pair_no b (at_least b 92 (omega arith) f)
byte_unbroken b false false true c e f g = refl
byte_unbroken b false false false true e f g = refl
byte_unbroken b false false false false e f g = or_no (nat_eq 10 b) (no_break b (ltb-false b 32 g))

byte_leads : (b : ℕ) → Leads inside inside (quoted_byte b)
byte_leads b = record {
  there = byte_there b (nat_eq b 34) (nat_eq b 92) (nat_eq b 38) (nat_lt b 32) refl refl;
  unbroken = byte_unbroken b (nat_eq b 34) (nat_eq b 92) (nat_eq b 38) (nat_lt b 32) refl refl refl;
}

pub quoted_leads : (t : List ℕ) → Leads inside inside (quoted t)
quoted_leads t = all_lead inside quoted_byte byte_leads t

-- a line from a state on
pub record LineFrom (r : Reading) (line : List ℕ) : Type 0 where
  pub body : List ℕ
  pub line_is : line ≡ body ++ 10 ∷ []
  pub unbroken : has body 10 ≡ false
  pub closed : read_text r line ≡ outside

in_front : (r s : Reading) (t line : List ℕ) → Leads r s t → LineFrom s line → LineFrom r (t ++ line)
in_front r s t line x y = record {
  body = t ++ y.body;
  line_is = ap (λ l. t ++ l) y.line_is ∙ sym (append_assoc t y.body (10 ∷ []));
  unbroken = list_any-append (nat_eq 10) t y.body ∙ ap (λ q. q || has y.body 10) x.unbroken ∙ y.unbroken;
  closed = read_append r t line ∙ ap (λ q. read_text q line) x.there ∙ y.closed;
}

is_line : (line : List ℕ) → LineFrom outside line → IsLine line
is_line line l = record { body = l.body; line_is = l.line_is; unbroken = l.unbroken; closed = l.closed }

-- what the box of a block says

count_leads : (count : ℕ) → Leads inside inside (count_text count)
count_leads count = if_leads inside (nat_eq count 1) [] (codes "\\n" ++ (quoted (decimal count) ++ codes " nodes")) (nothing inside)
    (leads_on inside inside inside (codes "\\n") (quoted (decimal count) ++ codes " nodes") (record { there = refl; unbroken = refl })
    (leads_on inside inside inside (quoted (decimal count)) (codes " nodes") (quoted_leads (decimal count)) (record { there = refl; unbroken = refl })))

name_leads : (names : List (List ℕ)) (n : ℕ) → Leads inside inside (codes ", " ++ quoted (node_name names n))
name_leads names n = leads_on inside inside inside (codes ", ") (quoted (node_name names n)) (record { there = refl; unbroken = refl }) (quoted_leads (node_name names n))

others_lead : (names : List (List ℕ)) (ns : List ℕ) → Leads inside inside (others_text names ns)
others_lead names ns = all_lead inside (λ n. codes ", " ++ quoted (node_name names n)) (name_leads names) ns

members_lead : (names : List (List ℕ)) (ns : List ℕ) → Leads inside inside (members_text names ns)
members_lead names [] = nothing inside
members_lead names (n ∷ ns) =
    leads_on inside inside inside (codes "\\n") (quoted (node_name names n) ++ others_text names ns) (record { there = refl; unbroken = refl })
    (leads_on inside inside inside (quoted (node_name names n)) (others_text names ns) (quoted_leads (node_name names n)) (others_lead names ns))

more_leads : (count shown : ℕ) → Leads inside inside (more_text count shown)
more_leads count shown = if_leads inside (nat_lt shown count) (codes " and " ++ (quoted (decimal (count - shown)) ++ codes " more")) []
    (leads_on inside inside inside (codes " and ") (quoted (decimal (count - shown)) ++ codes " more") (record { there = refl; unbroken = refl })
    (leads_on inside inside inside (quoted (decimal (count - shown))) (codes " more") (quoted_leads (decimal (count - shown))) (record { there = refl; unbroken = refl })))
    (nothing inside)

nodes_lead : (names : List (List ℕ)) (count : ℕ) (ns : List ℕ) → Leads inside inside (nodes_text names count ns)
nodes_lead names count ns = leads_on inside inside inside (members_text names ns) (more_text count (length ns)) (members_lead names ns) (more_leads count (length ns))

box_leads : (texts names : List (List ℕ)) (most : ℕ) (p : Partition) (b : Block) → Leads inside inside (box_text texts names most p b)
box_leads texts names most p b =
    let ns = firsts_below most (is_member p b.number) (length p.block_of) in
    leads_on inside inside inside (quoted (short_label (label_text texts b.label))) (count_text b.count ++ nodes_text names b.count ns)
    (quoted_leads (short_label (label_text texts b.label)))
    (leads_on inside inside inside (count_text b.count) (nodes_text names b.count ns) (count_leads b.count) (nodes_lead names b.count ns))

front_leads : (texts names : List (List ℕ)) (most : ℕ) (p : Partition) (b : Block) → Leads outside inside (block_front texts names most p b)
front_leads texts names most p b =
    leads_on outside inside inside (codes "  \"") _ (record { there = refl; unbroken = refl })
    (leads_on inside inside inside (quoted (node_word b.first)) _ (quoted_leads (node_word b.first))
    (leads_on inside inside inside (codes "\" [label=\"") (box_text texts names most p b) (record { there = refl; unbroken = refl }) (box_leads texts names most p b)))

back_ends : (texts : List (List ℕ)) (used : List ℕ) (b : Block) → LineFrom inside (block_back texts used b)
back_ends texts used b =
    in_front inside inside (codes "\" tooltip=\"") _ (record { there = refl; unbroken = refl })
    (in_front inside inside (quoted (label_text texts b.label)) _ (quoted_leads (label_text texts b.label))
    (in_front inside inside (codes "\" fillcolor=\"") _ (record { there = refl; unbroken = refl })
    (in_front inside inside (quoted (colour_of used b.label)) _ (quoted_leads (colour_of used b.label))
    (record { body = codes "\"];"; line_is = refl; unbroken = refl; closed = refl }))))

pub block_is_line : (texts names : List (List ℕ)) (most : ℕ) (p : Partition) (used : List ℕ) (b : Block) → IsLine (block_line texts names most p used b)
block_is_line texts names most p used b =
    is_line (block_line texts names most p used b)
    (in_front outside inside (block_front texts names most p b) (block_back texts used b) (front_leads texts names most p b) (back_ends texts used b))

-- pairs

support_leads : (n : ℕ) → Leads outside outside (support_text n)
support_leads n = if_leads outside (nat_eq n 1) [] (codes " [label=\"" ++ (quoted (decimal n) ++ codes "\"]")) (nothing outside)
    (leads_on outside inside outside (codes " [label=\"") (quoted (decimal n) ++ codes "\"]") (record { there = refl; unbroken = refl })
    (leads_on inside inside outside (quoted (decimal n)) (codes "\"]") (quoted_leads (decimal n)) (record { there = refl; unbroken = refl })))

dash_leads : (c : Bool) → Leads outside outside (dash_text c)
dash_leads c = if_leads outside c [] (codes " [style=dashed]") (nothing outside) (record { there = refl; unbroken = refl })

arrow_leads : (r : Pair) → Leads outside outside (arrow_text r)
arrow_leads r =
    leads_on outside inside outside (codes "  \"") _ (record { there = refl; unbroken = refl })
    (leads_on inside inside outside (quoted (node_word r.from.first)) _ (quoted_leads (node_word r.from.first))
    (leads_on inside inside outside (codes "\" -> \"") _ (record { there = refl; unbroken = refl })
    (leads_on inside inside outside (quoted (node_word r.onto.first)) (codes "\"") (quoted_leads (node_word r.onto.first)) (record { there = refl; unbroken = refl }))))

pub pair_is_line : (edge : ℕ → ℕ → Bool) (p : Partition) (r : Pair) → IsLine (pair_line edge p r)
pair_is_line edge p r =
    is_line (pair_line edge p r)
    (in_front outside outside (arrow_text r) _ (arrow_leads r)
    (in_front outside outside (support_text r.support) _ (support_leads r.support)
    (in_front outside outside (dash_text (covers edge p.block_of r.from.number r.onto.number)) (codes ";\n") (dash_leads (covers edge p.block_of r.from.number r.onto.number))
    (record { body = codes ";"; line_is = refl; unbroken = refl; closed = refl }))))

-- the whole text

lines_closed : {X : Type 0} (f : X → List ℕ) → ((x : X) → IsLine (f x)) → (xs : List X) → read_text outside (flat_map f xs) ≡ outside
lines_closed f h [] = refl
lines_closed f h (x ∷ xs) = read_append outside (f x) (flat_map f xs) ∙ ap (λ q. read_text q (flat_map f xs)) ((h x).closed) ∙ lines_closed f h xs

left_line : (blocks pairs : ℕ) → LineFrom outside (left_text blocks pairs)
left_line blocks pairs =
    in_front outside inside (codes "  \"note\" [shape=plaintext style=\"\" label=\"not drawn: ") _ (record { there = refl; unbroken = refl })
    (in_front inside inside (quoted (decimal blocks)) _ (quoted_leads (decimal blocks))
    (in_front inside inside (codes " smaller blocks, ") _ (record { there = refl; unbroken = refl })
    (in_front inside inside (quoted (decimal pairs)) _ (quoted_leads (decimal pairs))
    (record { body = codes " pairs of blocks\"];"; line_is = refl; unbroken = refl; closed = refl }))))

note_closed : (blocks pairs : ℕ) → read_text outside (note_line blocks pairs) ≡ outside
note_closed blocks pairs = by (is_whole blocks pairs)
  where
    by : (c : Bool) → read_text outside (if c then [] else left_text blocks pairs) ≡ outside
    by true = refl
    by false = (left_line blocks pairs).closed

closed_on : (a b : List ℕ) → read_text outside a ≡ outside → read_text outside b ≡ outside → read_text outside (a ++ b) ≡ outside
closed_on a b x y = read_append outside a b ∙ ap (λ q. read_text q b) x ∙ y

pub has_lines : (g : Graph) (q : Quotient) (names : List (List ℕ)) (most : ℕ) (bs : List Block) (rs : List Pair) (blocks pairs : ℕ) (text : List ℕ)
    → text ≡ head_text ++ ((flat_map (block_line g.seen names most q.blocks (labels_used bs)) bs ++ flat_map (pair_line (has_edge g) q.blocks) rs) ++ (note_line blocks pairs ++ tail_text))
    → HasLines g q names most bs rs blocks pairs text
has_lines g q names most bs rs blocks pairs text e =
    let one = block_is_line g.seen names most q.blocks (labels_used bs) in
    let two = pair_is_line (has_edge g) q.blocks in
    let boxes = flat_map (block_line g.seen names most q.blocks (labels_used bs)) bs in
    let arrows = flat_map (pair_line (has_edge g) q.blocks) rs in
    record {
      text_is = e;
      block = one;
      pair = two;
      closed = ap (read_text outside) e
          ∙ closed_on head_text ((boxes ++ arrows) ++ (note_line blocks pairs ++ tail_text)) refl
          (closed_on (boxes ++ arrows) (note_line blocks pairs ++ tail_text) (closed_on boxes arrows (lines_closed (block_line g.seen names most q.blocks (labels_used bs)) one bs) (lines_closed (pair_line (has_edge g) q.blocks) two rs))
          (closed_on (note_line blocks pairs) tail_text (note_closed blocks pairs) refl));
    }
