-- Words of which some are plain texts, whatever their bytes are. `read_marked` says what clap reads of them by a
-- walk that looks into the other words alone, and so computes where the plain texts are variables.
use Rattle.std.proofs.Common.{◌≡◌, ◌∙◌, ℕ, Bool, List, [], ◌∷◌, ◌++◌, map, Option, Some, None, is_some, true, false, refl, ap, ap₂, if◌then◌else◌}
use Rattle.std.specs.Prelude.{fold}
use Rattle.clap.specs.Kinds.{Kinds, or_else}
use Rattle.clap.specs.Faults.{check_fault, defaults_fault, entered_fault, settle_fault, step_fault, turn_fault, walk_fault}
use Rattle.clap.specs.Simple.{Shape, built, entered}
use Rattle.clap.specs.Walk.{Held, Rule, Step, Walk, after_step, finished, nothing_held, settled, walk, walk_from, walked, walked_from}
use Rattle.command_line.specs.Arguments.{Arguments}
use Rattle.command_line.specs.Usage.{IsPlainText}
use Rattle.command_line.specs.SimpleCommands.{is_no_fault}
use Rattle.command_line.specs.Words.{command, arguments_in, read}
use Rattle.command_line.proofs.NoFlag.{NoFlag, met_as_value, met_without_fault, no_flag, value_met}

-- ---- one word

abbrev walked_value : List Rule → Option (List ℕ × List (List ℕ)) → Walk → List ℕ → Walk
walked_value rules (Some p) w word = record w { stopped = Some (p.0, p.1 ++ word ∷ []) }
walked_value rules None w word =
    let met = value_met rules w.is_trailing w.waiting word w.held in after_step rules word w met.0 met.1

abbrev value_fault : Shape → Walk → List ℕ → Kinds
value_fault s w word =
    let met = value_met s.rules w.is_trailing w.waiting word w.held in
    if is_some w.stopped then [] else step_fault s w.position met.0 met.1

walked_as_value : (rules : List Rule) (w : Walk) (word : List ℕ) → NoFlag word → walked rules [] w word ≡ walked_value rules w.stopped w word
unfolding walked
walked_as_value rules w word n = go w.stopped
  where
    go : (stopped : Option (List ℕ × List (List ℕ))) → walked_from rules [] stopped w word ≡ walked_value rules stopped w word
    go (Some p) = refl
    go None = ap (λ (met : Held × Step). after_step rules word w met.0 met.1) (met_as_value rules w.is_trailing w.waiting w.position word w.held n)

fault_as_value : (s : Shape) (w : Walk) (word : List ℕ) → NoFlag word → turn_fault s [] w word ≡ value_fault s w word
fault_as_value s w word n =
    ap₂ (λ (met : Held × Step) (first : Kinds). if is_some w.stopped then [] else or_else first (step_fault s w.position met.0 met.1))
    (met_as_value s.rules w.is_trailing w.waiting w.position word w.held n)
    (met_without_fault s w.is_trailing w.waiting word w.held n)

-- ---- all words

-- a word, and whether it is a plain text
abbrev pub Marked : Type 0
Marked = Bool × List ℕ

abbrev pub words_marked : List Marked → List (List ℕ)
words_marked = map (λ m. m.1)

abbrev pub ArePlain : List Marked → Type 0
ArePlain [] = Unit {0}
ArePlain ((true, word) ∷ ms) = IsPlainText word × ArePlain ms
ArePlain ((false, word) ∷ ms) = ArePlain ms

abbrev walked_mark : List Rule → Walk → Marked → Walk
walked_mark rules w (true, word) = walked_value rules w.stopped w word
walked_mark rules w (false, word) = walked rules [] w word

abbrev mark_fault : Shape → Walk → Marked → Kinds
mark_fault s w (true, word) = value_fault s w word
mark_fault s w (false, word) = turn_fault s [] w word

abbrev walk_marked : List Rule → Walk → List Marked → Walk
walk_marked rules = fold (walked_mark rules)

abbrev marked_fault : Shape → Walk → List Marked → Kinds
marked_fault s w [] = []
marked_fault s w (m ∷ ms) = or_else (mark_fault s w m) (marked_fault s (walked_mark s.rules w m) ms)

same_walk : (rules : List Rule) (w : Walk) (ms : List Marked) → ArePlain ms → fold (walked rules []) w (words_marked ms) ≡ walk_marked rules w ms
same_walk rules w [] plain = refl
same_walk rules w ((true, word) ∷ ms) plain =
    ap (λ v. fold (walked rules []) v (words_marked ms)) (walked_as_value rules w word (no_flag word plain.0))
    ∙ same_walk rules (walked_value rules w.stopped w word) ms plain.1
same_walk rules w ((false, word) ∷ ms) plain = same_walk rules (walked rules [] w word) ms plain

same_fault : (s : Shape) (w : Walk) (ms : List Marked) → ArePlain ms → walk_fault s [] w (words_marked ms) ≡ marked_fault s w ms
unfolding walk_fault
same_fault s w [] plain = refl
same_fault s w ((true, word) ∷ ms) plain =
    ap₂ or_else (fault_as_value s w word (no_flag word plain.0))
    (ap (λ v. walk_fault s [] v (words_marked ms)) (walked_as_value s.rules w word (no_flag word plain.0))
    ∙ same_fault s (walked_value s.rules w.stopped w word) ms plain.1)
same_fault s w ((false, word) ∷ ms) plain = ap (or_else (turn_fault s [] w word)) (same_fault s (walked s.rules [] w word) ms plain)

-- ---- what is read

abbrev shape : Shape
shape = (built command).top

-- what is read, from where a walk ends and the fault that it met
abbrev read_after : Walk → Kinds → Option Arguments
read_after end fault =
    let entered_sub = entered (built command) end.stopped in
    let rows = finished shape.rules end.held in
    let later = or_else (entered_fault (built command) end.stopped)
    (or_else (settle_fault shape.rules shape.args_override_self end.held)
    (or_else (defaults_fault (settled shape.rules end.held).rows shape.rules)
    (check_fault shape rows (is_some entered_sub)))) in
    if is_no_fault (or_else fault later) then Some (arguments_in rows) else None

abbrev pub read_by_marks : List Marked → Option Arguments
read_by_marks ms = read_after (walk_marked shape.rules (walk_from nothing_held) ms) (marked_fault shape (walk_from nothing_held) ms)

read_is : (words : List (List ℕ)) → read words ≡ read_after (walk shape.rules [] nothing_held words) (walk_fault shape [] (walk_from nothing_held) words)
read_is words = refl

pub read_marked : (ms : List Marked) → ArePlain ms → read (words_marked ms) ≡ read_by_marks ms
read_marked ms plain =
    read_is (words_marked ms)
    ∙ ap₂ read_after (same_walk shape.rules (walk_from nothing_held) ms plain) (same_fault shape (walk_from nothing_held) ms plain)
