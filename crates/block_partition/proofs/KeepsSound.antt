-- Tables that are sound stay so.
use Rattle.std.proofs.Common.{◌≡◌, ◌≢◌, ℕ, ◌+◌, ◌-◌, ◌<◌, ◌≤◌, List, [], ◌∷◌, ◌++◌, length, Option, Some, None, IsSome, refl, sym, ◌∙◌, ap, arith, slice_set, slice_index, subst, count_by}
use Rattle.std.specs.Prelude.{is_some}
use Rattle.std.proofs.lemmas.List.{length-set, length-append}
use Rattle.graph_spec.specs.Members.{at, has, is_this}
use Rattle.block_partition.specs.Tables.{Table, Gaps, NumberSet, gap_capacity, set_at, head_where, grown}
use Rattle.block_partition.specs.Soundness.{IsSoundPartition, AreBlockCounts, AreGaps}
use Rattle.block_partition.proofs.Mirrors.{length-set_at, mirrored_out, mirrored_in, mirrored_same, at_grown}
use Rattle.block_partition.proofs.Counts.{some_within, counted_out, counted_in, counted_grown, counted_again, counted_next, counted_retired}
use Rattle.block_partition.proofs.Growth.{length_grown}
use Rattle.block_partition.specs.LabelledPartitions.{IsLeastFree}
use Rattle.block_partition.proofs.FreedNumbers.{least_is_next, count_all, no_gaps}
use Rattle.block_partition.proofs.ListedBlocks.{IsWithout, with_number, listed_retired, listed_again, listed_next}

abbrev pub put_in : Table → List (Option ℕ) → Table
put_in t places = record { places = places; capacity = t.capacity }

pub sound_out : (bl nx pv fs : Table) (lb : List (Option ℕ)) (lc : ℕ) (sz : List ℕ) (sc : ℕ) (fr : Gaps) (lv : NumberSet) (nr br n b : ℕ)
    → IsSoundPartition bl nx pv fs lb lc sz sc fr lv nr br → at bl.places n ≡ Some b
    → IsSoundPartition (put_in bl (slice_set bl.places n None)) (put_in nx (slice_set (set_at nx.places (at pv.places n) (at nx.places n)) n None))
    (put_in pv (slice_set (set_at pv.places (at nx.places n) (at pv.places n)) n None)) (put_in fs (set_at fs.places (head_where b (at pv.places n)) (at nx.places n)))
    lb lc (slice_set sz b (slice_index sz b - 1)) sc fr lv nr br
sound_out bl nx pv fs lb lc sz sc fr lv nr br n b s has =
    let in_lb = some_within lb b (s.counted.live n b has) in
    let first = s.tables.length_first in
    let sizes = s.tables.length_sizes in
    let len = length-set bl.places n None in
    let f = s.nodes_fit in
    record {
      mirrored = mirrored_out bl.places nx.places pv.places fs.places n b s.mirrored has (omega (arith, in_lb, first));
      counted = counted_out bl.places lb sz (length lv.numbers) n b s.counted has (omega (arith, in_lb, sizes));
      tables =
          record {
            length_first = length-set_at fs.places (head_where b (at pv.places n)) (at nx.places n) ∙ first;
            length_sizes = length-set sz b (slice_index sz b - 1) ∙ sizes;
            few = s.tables.few;
            gaps = s.tables.gaps;
            all_fit = s.tables.all_fit;
            listed = s.tables.listed;
            all_have_places = s.tables.all_have_places;
          };
      nodes_fit = record { few = rw len f.few; block_fits = rw len f.block_fits; next_fits = rw len f.next_fits; prev_fits = rw len f.prev_fits };
      blocks_fit = s.blocks_fit;
    }

pub sound_in : (bl nx pv fs : Table) (lb : List (Option ℕ)) (lc : ℕ) (sz : List ℕ) (sc : ℕ) (fr : Gaps) (lv : NumberSet) (nr br n b : ℕ)
    → IsSoundPartition bl nx pv fs lb lc sz sc fr lv nr br → at bl.places n ≡ None → n < length bl.places → IsSome (at lb b)
    → IsSoundPartition (put_in bl (slice_set bl.places n (Some b))) (put_in nx (slice_set nx.places n (at fs.places b)))
    (put_in pv (set_at pv.places (at fs.places b) (Some n))) (put_in fs (slice_set fs.places b (Some n)))
    lb lc (slice_set sz b (slice_index sz b + 1)) sc fr lv nr br
sound_in bl nx pv fs lb lc sz sc fr lv nr br n b s none in_bl is_block =
    let in_lb = some_within lb b is_block in
    let first = s.tables.length_first in
    let sizes = s.tables.length_sizes in
    let len = length-set bl.places n (Some b) in
    let f = s.nodes_fit in
    record {
      mirrored = mirrored_in bl.places nx.places pv.places fs.places n b s.mirrored none in_bl (omega (arith, in_lb, first));
      counted = counted_in bl.places lb sz (length lv.numbers) n b s.counted none in_bl is_block (omega (arith, in_lb, sizes));
      tables =
          record {
            length_first = length-set fs.places b (Some n) ∙ first;
            length_sizes = length-set sz b (slice_index sz b + 1) ∙ sizes;
            few = s.tables.few;
            gaps = s.tables.gaps;
            all_fit = s.tables.all_fit;
            listed = s.tables.listed;
            all_have_places = s.tables.all_have_places;
          };
      nodes_fit = record { few = rw len f.few; block_fits = rw len f.block_fits; next_fits = rw len f.next_fits; prev_fits = rw len f.prev_fits };
      blocks_fit = s.blocks_fit;
    }

-- the list grows by its reserved capacity
pub sound_grown : (bl nx pv fs : Table) (lb : List (Option ℕ)) (lc : ℕ) (sz : List ℕ) (sc : ℕ) (fr : Gaps) (lv : NumberSet) (nr br len : ℕ)
    → IsSoundPartition bl nx pv fs lb lc sz sc fr lv nr br → len ≤ length bl.places + nr
    → IsSoundPartition (put_in bl (grown bl.places len)) (put_in nx (grown nx.places len)) (put_in pv (grown pv.places len)) fs
    lb lc sz sc fr lv (nr - (length (grown bl.places len) - length bl.places)) br
sound_grown bl nx pv fs lb lc sz sc fr lv nr br len s h =
    let f = s.nodes_fit in
    let b = length_grown bl.places len in
    let n = length_grown nx.places len in
    let p = length_grown pv.places len in
    let ln = s.mirrored.length_next in
    let lp = s.mirrored.length_prev in
    record {
      mirrored =
          mirrored_same bl.places nx.places pv.places fs.places (grown bl.places len) (grown nx.places len) (grown pv.places len) fs.places s.mirrored
          (at_grown bl.places (len - length bl.places)) (at_grown nx.places (len - length nx.places)) (at_grown pv.places (len - length pv.places)) (λ _. refl)
          (omega (arith, b, n, ln)) (omega (arith, b, p, lp));
      counted = counted_grown bl.places lb sz (length lv.numbers) (len - length bl.places) s.counted;
      tables = s.tables;
      nodes_fit =
          (let few = f.few in let x = f.block_fits in let y = f.next_fits in let z = f.prev_fits in
          record { few = omega (arith, b, h, few); block_fits = omega (arith, b, h, x); next_fits = omega (arith, b, h, y); prev_fits = omega (arith, b, h, z) });
      blocks_fit = s.blocks_fit;
    }

-- a block without members is no block any more
pub sound_retired : (bl nx pv fs : Table) (lb : List (Option ℕ)) (lc : ℕ) (sz : List ℕ) (sc : ℕ) (fr fr' : Gaps) (lv lv' : NumberSet) (nr br b l : ℕ)
    → IsSoundPartition bl nx pv fs lb lc sz sc fr lv nr br → at lb b ≡ Some l → ((n : ℕ) → at bl.places n ≢ Some b)
    → AreGaps (slice_set lb b None) fr' → gap_capacity fr' ≡ gap_capacity fr → IsWithout lv lv' b
    → IsSoundPartition bl nx pv fs (slice_set lb b None) lc sz sc fr' lv' nr br
sound_retired bl nx pv fs lb lc sz sc fr fr' lv lv' nr br b l s is_block empty gaps same without =
    let some : IsSome (at lb b) = subst IsSome (sym is_block) refl in
    let k = counted_retired bl.places lb sz (length lv.numbers) b s.counted some empty in
    let fewer = without.len in
    let one : length lv.numbers - 1 ≡ length lv'.numbers = omega (arith, fewer) in
    let len = length-set lb b None in
    let t = s.tables in
    let f = s.blocks_fit in
    let x0 = f.few in
    let x1 = f.first_fits in
    let x2 = f.labels_fit in
    let x3 = f.sizes_fit in
    let x4 = f.freed_fit in
    let x5 = f.places_fit in
    let x6 = f.live_fit in
    record {
      mirrored = s.mirrored;
      counted = subst (AreBlockCounts bl.places (slice_set lb b None) sz) one k.1;
      tables =
          record {
            length_first = t.length_first ∙ sym len;
            length_sizes = t.length_sizes ∙ sym len;
            few = rw len t.few;
            gaps = gaps;
            all_fit = rw (len, same) t.all_fit;
            listed = listed_retired lb lv.numbers lv'.numbers b t.listed some without.numbers;
            all_have_places = rw (len, without.span) t.all_have_places;
          };
      nodes_fit = s.nodes_fit;
      blocks_fit =
          record {
            few = omega (arith, fewer, x0);
            first_fits = omega (arith, fewer, x1);
            labels_fit = omega (arith, fewer, x2);
            sizes_fit = omega (arith, fewer, x3);
            freed_fit = rw same (omega (arith, fewer, x4));
            places_fit = rw without.span (omega (arith, fewer, x5));
            live_fit = rw without.capacity (omega (arith, fewer, x6));
          };
    }

-- a number that was freed is a block again
pub sound_again : (bl nx pv fs : Table) (lb : List (Option ℕ)) (lc : ℕ) (sz : List ℕ) (sc : ℕ) (fr fr' : Gaps) (lv : NumberSet) (nr br b label : ℕ)
    → IsSoundPartition bl nx pv fs lb lc sz sc fr lv nr br → 0 < br
    → at lb b ≡ None → b < length lb → AreGaps (slice_set lb b (Some label)) fr' → gap_capacity fr' ≡ gap_capacity fr
    → IsSoundPartition bl nx pv fs (slice_set lb b (Some label)) lc sz sc fr' (with_number lv b) nr (br - 1)
sound_again bl nx pv fs lb lc sz sc fr fr' lv nr br b label s reserved free within gaps same =
    let t = s.tables in
    let len = length-set lb b (Some label) in
    let f = s.blocks_fit in
    let x0 = f.few in
    let x1 = f.first_fits in
    let x2 = f.labels_fit in
    let x3 = f.sizes_fit in
    let x4 = f.freed_fit in
    let x5 = f.places_fit in
    let x6 = f.live_fit in
    let more = length-append lv.numbers (b ∷ []) in
    let one : length lv.numbers + 1 ≡ length (lv.numbers ++ b ∷ []) = omega (arith, more) in
    record {
      mirrored = s.mirrored;
      counted = subst (AreBlockCounts bl.places (slice_set lb b (Some label)) sz) one (counted_again bl.places lb sz (length lv.numbers) b label s.counted free within);
      tables =
          record {
            length_first = t.length_first ∙ sym len;
            length_sizes = t.length_sizes ∙ sym len;
            few = rw len t.few;
            gaps = gaps;
            all_fit = rw (len, same) t.all_fit;
            listed = listed_again lb lv.numbers b label t.listed within;
            all_have_places = rw len t.all_have_places;
          };
      nodes_fit = s.nodes_fit;
      blocks_fit =
          record {
            few = omega (arith, reserved, more, x0);
            first_fits = omega (arith, reserved, more, x1);
            labels_fit = omega (arith, reserved, more, x2);
            sizes_fit = omega (arith, reserved, more, x3);
            freed_fit = rw same (omega (arith, reserved, more, x4));
            places_fit = omega (arith, reserved, more, x5);
            live_fit = omega (arith, reserved, more, x6);
          };
    }

-- where the least free number is past the end, there are as many blocks as numbers
pub count_full : (bl nx pv fs : Table) (lb : List (Option ℕ)) (lc : ℕ) (sz : List ℕ) (sc : ℕ) (fr : Gaps) (lv : NumberSet) (nr br b : ℕ)
    → IsSoundPartition bl nx pv fs lb lc sz sc fr lv nr br → length lb ≤ b → IsLeastFree lb b → length lv.numbers ≡ length lb
count_full bl nx pv fs lb lc sz sc fr lv nr br b s past least =
    let next = least_is_next lb b past least in
    s.counted.count_is ∙ count_all lb (λ c h. least.least c (omega (arith, h, next)))

-- the next number is a block
pub sound_next : (bl nx pv fs : Table) (lb : List (Option ℕ)) (lc : ℕ) (sz : List ℕ) (sc : ℕ) (fr fr' : Gaps) (lv : NumberSet) (nr br b label : ℕ)
    → IsSoundPartition bl nx pv fs lb lc sz sc fr lv nr br → 0 < br
    → length lv.numbers ≡ length lb → b ≡ length lb → AreGaps (lb ++ Some label ∷ []) fr' → gap_capacity fr' ≡ gap_capacity fr
    → IsSoundPartition bl nx pv (put_in fs (fs.places ++ None ∷ [])) (lb ++ Some label ∷ []) lc (sz ++ 0 ∷ []) sc fr' (with_number lv b) nr (br - 1)
sound_next bl nx pv fs lb lc sz sc fr fr' lv nr br b label s reserved full next gaps same =
    let t = s.tables in
    let len = length-append lb (Some label ∷ []) in
    let first = length-append fs.places (None ∷ []) in
    let sizes = length-append sz (0 ∷ []) in
    let lf = t.length_first in
    let ls = t.length_sizes in
    let f = s.blocks_fit in
    let x0 = f.few in
    let x1 = f.first_fits in
    let x2 = f.labels_fit in
    let x3 = f.sizes_fit in
    let x4 = f.freed_fit in
    let x5 = f.places_fit in
    let x6 = f.live_fit in
    let more = length-append lv.numbers (b ∷ []) in
    let one : length lv.numbers + 1 ≡ length (lv.numbers ++ b ∷ []) = omega (arith, more) in
    record {
      mirrored =
          mirrored_same bl.places nx.places pv.places fs.places bl.places nx.places pv.places (fs.places ++ None ∷ []) s.mirrored
          (λ _. refl) (λ _. refl) (λ _. refl) (at_grown fs.places 1) s.mirrored.length_next s.mirrored.length_prev;
      counted = subst (AreBlockCounts bl.places (lb ++ Some label ∷ []) (sz ++ 0 ∷ [])) one (counted_next bl.places lb sz (length lv.numbers) label s.counted ls);
      tables =
          record {
            length_first = omega (arith, first, len, lf);
            length_sizes = omega (arith, sizes, len, ls);
            few = omega (arith, len, full, x0, reserved);
            gaps = gaps;
            all_fit = rw same (omega (arith, len, full, x4, reserved));
            listed = listed_next lb lv.numbers b label t.listed next;
            all_have_places = omega (arith, len, full, x5, reserved);
          };
      nodes_fit = s.nodes_fit;
      blocks_fit =
          record {
            few = omega (arith, reserved, more, x0);
            first_fits = omega (arith, reserved, more, x1);
            labels_fit = omega (arith, reserved, more, x2);
            sizes_fit = omega (arith, reserved, more, x3);
            freed_fit = rw same (omega (arith, reserved, more, x4));
            places_fit = omega (arith, reserved, more, x5);
            live_fit = omega (arith, reserved, more, x6);
          };
    }

nowhere : (xs : List (Option ℕ)) (n v : ℕ) → xs ≡ [] → at xs n ≡ Some v → ⊥
nowhere xs n v e h = let none : at xs n ≡ None = ap (λ ys. at ys n) e in cc

-- tables that are empty
pub sound_none : (bl nx pv fs : Table) (lb : List (Option ℕ)) (lc : ℕ) (sz : List ℕ) (sc : ℕ) (fr : Gaps) (lv : NumberSet)
    → bl.places ≡ [] → nx.places ≡ [] → pv.places ≡ [] → fs.places ≡ [] → lb ≡ [] → sz ≡ [] → fr.low ≡ 0 → fr.full ≡ [] → lv.numbers ≡ []
    → IsSoundPartition bl nx pv fs lb lc sz sc fr lv 0 0
sound_none bl nx pv fs lb lc sz sc fr lv eb en ep ef el es er eg ev =
    let b0 : length bl.places ≡ 0 = ap length eb in
    let n0 : length nx.places ≡ 0 = ap length en in
    let p0 : length pv.places ≡ 0 = ap length ep in
    let f0 : length fs.places ≡ 0 = ap length ef in
    let l0 : length lb ≡ 0 = ap length el in
    let s0 : length sz ≡ 0 = ap length es in
    let v0 : length lv.numbers ≡ 0 = ap length ev in
    record {
      mirrored =
          record {
            length_next = omega (arith, b0, n0);
            length_prev = omega (arith, b0, p0);
            rank = λ _. 0;
            top = 0;
            below_top = λ _. omega arith;
            links =
                record {
                  next_back = λ n q e. absurd (nowhere nx.places n q en e);
                  next_block = λ n q e. absurd (nowhere nx.places n q en e);
                  next_rank = λ n q e. absurd (nowhere nx.places n q en e);
                  prev_back = λ n p e. absurd (nowhere pv.places n p ep e);
                  head = λ n b e _. absurd (nowhere bl.places n b eb e);
                  first_block = λ b n e. absurd (nowhere fs.places b n ef e);
                  first_prev = λ b n e. absurd (nowhere fs.places b n ef e);
                  free_next = λ n _. ap (λ xs. at xs n) en;
                  free_prev = λ n _. ap (λ xs. at xs n) ep;
                };
          };
      counted =
          record {
            live = λ n b e. absurd (nowhere bl.places n b eb e);
            sizes_are = λ b. ap (λ xs. slice_index xs b) es ∙ sym (ap (count_by (is_this b)) eb);
            count_is = v0 ∙ sym (ap (count_by is_some) el);
          };
      tables =
          record {
            length_first = omega (arith, f0, l0);
            length_sizes = omega (arith, s0, l0);
            few = omega (arith, l0);
            gaps = no_gaps lb fr el er eg;
            all_fit = omega (arith, l0);
            listed = λ b. ap (λ xs. has xs b) ev ∙ sym (ap (λ xs. is_some (at xs b)) el);
            all_have_places = omega (arith, l0);
          };
      nodes_fit = record { few = omega (arith, b0); block_fits = omega (arith, b0); next_fits = omega (arith, b0); prev_fits = omega (arith, b0) };
      blocks_fit =
          record {
            few = omega (arith, v0);
            first_fits = omega (arith, v0);
            labels_fit = omega (arith, v0);
            sizes_fit = omega (arith, v0);
            freed_fit = omega (arith, v0);
            places_fit = omega (arith, v0);
            live_fit = omega (arith, v0);
          };
    }
