-- From what was put together, and the end that was taken, to the first line of the text ahead.
use Rattle.std.proofs.Common.{◌≡◌, ℕ, ◌+◌, ◌<◌, ◌≤◌, ◌⊎◌, min, List, [], ◌∷◌, ◌++◌, length, Option, None, Some, sym, ap, ◌∙◌, refl, subst, append_assoc, append-nil, arith, ◌-◌, inr, Result, Ok, Err, IfOk}
use Rattle.std.specs.Io.KnownBytes.{Consumes}
use Rattle.std.proofs.KnownBytes.{Consumes-trans}
use Rattle.std.proofs.lemmas.List.{nil_from_length}
use Rattle.graph_spec.specs.Lines.{cut, IsUncut}
use Rattle.graph_spec.proofs.LineLemmas.{cut-feed, cut-return-feed, cut-return, cut-last, cut-long, cut-return-long, BeginsLong}
use Rattle.px_base.specs.declared.line_end.LineEnd.{LineEnd}
use Rattle.px_base.specs.declared.line_end.LineEnd.TheVariants.{Feed, Return, ReturnFeed, Over}
use Rattle.px_base.specs.LineEnds.{end_bytes, IsWhole, TakesEnd, EndPasses}
use Rattle.px_base.specs.GatheredLines.{Gathers, IsTooLong, GathersLine, IsLong}
use Rattle.px_base.specs.ReaderStates.{ReaderState, IsFirst, IsPast, IsOver}

-- a text up to its first end is its first line
cut-first : (text : List ℕ) (end : LineEnd) (rest : List ℕ) → IsUncut text → IsWhole end (Some rest) → 0 < length text + length (end_bytes end)
    → cut (text ++ (end_bytes end ++ rest)) ≡ record { text = text; end = end_bytes end } ∷ cut rest
cut-first text Feed rest p w h = cut-feed text rest p
cut-first text Return rest p w h = cut-return text rest p w
cut-first text ReturnFeed rest p w h = cut-return-feed text rest p
cut-first [] Over rest p w h = absurd (omega arith)
cut-first (b ∷ bs) Over rest p w h =
    ap (λ r. cut ((b ∷ bs) ++ r)) w ∙ ap cut (append-nil (b ∷ bs)) ∙ cut-last b bs p ∙ ap (λ r. record { text = b ∷ bs; end = [] } ∷ cut r) (sym w)

first-observable : (text : List ℕ) (end : LineEnd) (before after : Option (List ℕ)) → IsUncut text → IsWhole end after → 0 < length text + length (end_bytes end)
    → Consumes before after (text ++ end_bytes end) → IsFirst (record { text = text; end = end_bytes end }) before after
first-observable text end None after p w h observable = tt
first-observable text end (Some x) None p w h observable = absurd observable
first-observable text end (Some x) (Some y) p w h observable = ap cut (observable ∙ append_assoc text (end_bytes end) y) ∙ cut-first text end y p w h

none-taken : (text : List ℕ) (end : LineEnd) (before after : Option (List ℕ)) → length text + length (end_bytes end) ≡ 0 → IsWhole end after
    → Consumes before after (text ++ end_bytes end) → (end ≡ Over) × IsOver before × IsOver after
none-taken text Feed before after e w observable = absurd (omega arith)
none-taken text Return before after e w observable = absurd (omega arith)
none-taken text ReturnFeed before after e w observable = absurd (omega arith)
none-taken text Over None None e w observable = (refl, tt, tt)
none-taken text Over None (Some y) e w observable = (refl, tt, w)
none-taken text Over (Some x) None e w observable = absurd observable
none-taken text Over (Some x) (Some y) e w observable =
    let z : text ≡ [] = nil_from_length text (omega arith) in
    (refl, observable ∙ ap (λ l. (l ++ []) ++ y) z ∙ w, w)

observable-both : (most most2 : ℕ) (line : List ℕ) (end : LineEnd) (a b c : Option (List ℕ)) → Gathers most [] line a b → TakesEnd most2 end b c → Consumes a c (line ++ end_bytes end)
observable-both most most2 line end a b c g t =
    subst (λ l. Consumes a c (l ++ end_bytes end)) (sym g.line_is) (Consumes-trans a b c g.part (end_bytes end) g.observable t.observable)

-- what was put together, and its end, are a line
takes-line : (line_limit most : ℕ) (line : List ℕ) (end : LineEnd) (window : List ℕ) (a b c : Option (List ℕ))
    → Gathers (min line_limit most) [] line a b → TakesEnd (most - length line) end b c → (end ≡ Over → window ≡ [])
    → GathersLine line_limit most line end window a c
takes-line line_limit most line end window a b c g t over =
    let short = g.short in
    let fits = t.fits in
    let plain = subst IsUncut (sym g.line_is) g.plain in
    let observable = observable-both (min line_limit most) (most - length line) line end a b c g t in
    record {
      short = omega arith;
      fits = omega arith;
      first = λ h. first-observable line end a c plain t.whole h observable;
      done = λ e. let n = none-taken line end a c e t.whole observable in
          record { empty = nil_from_length line (omega arith); drained = over n.0; over_before = n.1; over_after = n.2 };
    }

pub took-line : {E : Type 0} (line_limit most : ℕ) (line window : List ℕ) (a b c : Option (List ℕ)) (r : Result LineEnd E)
    → Gathers (min line_limit most) [] line a b → IfOk r (λ end. TakesEnd (most - length line) end b c) → (r ≡ Ok Over → window ≡ [])
    → IfOk r (λ end. GathersLine line_limit most line end window a c)
took-line line_limit most line window a b c (Ok end) g t over = takes-line line_limit most line end window a b c g t (λ e. over (ap Ok e))
took-line line_limit most line window a b c (Err e) g t over = tt

long-first : (line_limit most : ℕ) (text : List ℕ) (n m : ℕ) → BeginsLong n m (cut text) → (line_limit < n) ⊎ (most < n + m) → IsLong line_limit most (Some text)
long-first line_limit most text n m l h = (l.first, l.others, l.lines_are, λ w. grind (arith, l.long, l.end_long, w.0, w.1, h))

long-prefix : (line_limit most : ℕ) (x prefix : List ℕ) (rest : Option (List ℕ)) → IsUncut prefix → min line_limit most < length prefix → Consumes (Some x) rest prefix
    → IsLong line_limit most (Some x)
long-prefix line_limit most x prefix None p l observable = absurd observable
long-prefix line_limit most x [] (Some y) p l observable = absurd (omega arith)
long-prefix line_limit most x (b ∷ bs) (Some y) p l observable =
    long-first line_limit most x (length (b ∷ bs)) 0 (subst (λ z. BeginsLong (length (b ∷ bs)) 0 (cut z)) (sym observable) (cut-long b bs y p)) (grind arith)

-- more stands before the first end than is allowed
pub long-text : (line_limit most : ℕ) (before : Option (List ℕ)) → IsTooLong (min line_limit most) [] before → IsLong line_limit most before
long-text line_limit most None t = tt
long-text line_limit most (Some x) t = long-prefix line_limit most x t.prefix t.rest t.plain (omega (arith, t.long)) t.observable

long-ended : (line_limit most : ℕ) (text : List ℕ) (end : LineEnd) (rest : List ℕ) → IsUncut text → length text ≤ most → most - length text < length (end_bytes end)
    → IsLong line_limit most (Some (text ++ (end_bytes end ++ rest)))
long-ended line_limit most text Feed rest p s h = (record { text = text; end = 10 ∷ [] }, cut rest, cut-feed text rest p, λ w. omega (arith, w.1))
long-ended line_limit most text Return rest p s h = long-first line_limit most (text ++ 13 ∷ rest) (length text) 1 (cut-return-long text rest p) (inr (omega arith))
long-ended line_limit most text ReturnFeed rest p s h = (record { text = text; end = 13 ∷ 10 ∷ [] }, cut rest, cut-return-feed text rest p, λ w. omega (arith, w.1))
long-ended line_limit most text Over rest p s h = absurd (omega arith)

long-observable : (line_limit most : ℕ) (text : List ℕ) (end : LineEnd) (before rest : Option (List ℕ)) → IsUncut text → length text ≤ most → most - length text < length (end_bytes end)
    → Consumes before rest (text ++ end_bytes end) → IsLong line_limit most before
long-observable line_limit most text end None rest p s h observable = tt
long-observable line_limit most text end (Some x) None p s h observable = absurd observable
long-observable line_limit most text end (Some x) (Some y) p s h observable =
    subst (λ z. IsLong line_limit most (Some z)) (sym (observable ∙ append_assoc text (end_bytes end) y)) (long-ended line_limit most text end y p s h)

-- a byte of the line's end is one too many
pub long-end : (line_limit most : ℕ) (line : List ℕ) (a b : Option (List ℕ)) → Gathers (min line_limit most) [] line a b → EndPasses (most - length line) b → IsLong line_limit most a
long-end line_limit most line a b g t =
    let short = g.short in
    let e = ap length g.line_is in
    long-observable line_limit most g.part t.end a t.rest g.plain (omega arith) (omega (arith, t.long)) (Consumes-trans a b t.rest g.part (end_bytes t.end) g.observable t.observable)

-- limits that are what the reader has left
pub past-long : (r : ReaderState) (most : ℕ) (before : Option (List ℕ)) → r.taken + most ≡ r.text_limit → IsLong r.line_limit most before → IsPast r before
past-long r most None e t = tt
past-long r most (Some x) e t = (t.0, t.1, t.2, λ w. t.3 (w.0, omega (arith, w.1)))
