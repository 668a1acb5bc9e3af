-- The status of a script that ran, and of one that was cut short.
use Rattle.std.proofs.Common.{◌≡◌, ◌≢◌, ◌≤◌, ℕ, List, Option, inl, refl, sym, arith, subst}
use Rattle.px_base.specs.Causes.{MayHaveRisen}
use Rattle.px_base.specs.Files.{File}
use Rattle.command_line.specs.Forms.{Settings, runs}
use Rattle.script_interpreter.specs.declared.script.Ending.{Ending}
use Rattle.script_interpreter.specs.declared.script.Ending.TheVariants.{Done, Refused, Bad}
use Rattle.script_interpreter.specs.Endings.{status_at}
use Rattle.pathindex_run.specs.Headline.{HasStatus}

-- no call failed: the status is none of those that say more than that a script ran
ran : (s : Settings) (files : Option (List File)) (a b c d status : ℕ) → status ≤ 4 → status ≢ 2 → status ≢ 3 → b ≡ a → d ≡ c → HasStatus (runs s) files a b c d status
ran s files a b c d status few no_usage no_refusal shelf sink = record {
  is_one = omega (arith, few);
  some_refused = λ _. tt;
  bad_line = λ _. tt;
  usage = λ e. absurd (no_usage e);
  refused = λ e. absurd (no_refusal e);
  differs = λ e. absurd (omega (arith, few, e));
  missing = λ e. absurd (omega (arith, few, e));
  reads = λ _. tt;
  sink = λ e. absurd (omega (arith, few, e));
  shelf_never_falls = omega (arith, shelf);
  sink_never_falls = omega (arith, sink);
  shelf_kept = λ _. shelf;
  sink_kept = λ _. sink;
  shelf_rose = λ h. absurd (omega (arith, h, shelf));
  sink_rose = λ h. absurd (omega (arith, h, sink));
}

ended : (s : Settings) (files : Option (List File)) (a b c d : ℕ) (e : Ending) → b ≡ a → d ≡ c → HasStatus (runs s) files a b c d (status_at e)
ended s files a b c d Done shelf sink = ran s files a b c d 0 (omega arith) (λ e. omega (arith, e)) (λ e. omega (arith, e)) shelf sink
ended s files a b c d Refused shelf sink = ran s files a b c d 1 (omega arith) (λ e. omega (arith, e)) (λ e. omega (arith, e)) shelf sink
ended s files a b c d Bad shelf sink = ran s files a b c d 4 (omega arith) (λ e. omega (arith, e)) (λ e. omega (arith, e)) shelf sink

-- the script was run to its end, or to a bad line
pub status_ended : (s : Settings) (files : Option (List File)) (a b c d : ℕ) (e : Ending) (status : ℕ) → status ≡ status_at e → b ≡ a → d ≡ c → HasStatus (runs s) files a b c d status
status_ended s files a b c d e status is shelf sink = subst (HasStatus (runs s) files a b c d) (sym is) (ended s files a b c d e shelf sink)

-- a call of the shelf failed
pub status_unread : (s : Settings) (files : Option (List File)) (a b c d : ℕ) → MayHaveRisen a b → d ≡ c → HasStatus (runs s) files a b c d 5
status_unread s files a b c d risen sink = record {
  is_one = omega arith;
  some_refused = λ _. tt;
  bad_line = λ _. tt;
  usage = λ e. absurd (omega (arith, e));
  refused = λ e. absurd (omega (arith, e));
  differs = λ e. absurd (omega (arith, e));
  missing = λ _. inl risen;
  reads = λ _. tt;
  sink = λ e. absurd (omega (arith, e));
  shelf_never_falls = risen.0;
  sink_never_falls = omega (arith, sink);
  shelf_kept = λ n. absurd (n refl);
  sink_kept = λ _. sink;
  shelf_rose = λ _. refl;
  sink_rose = λ h. absurd (omega (arith, h, sink));
}

-- a call of the sink failed
pub status_unwritten : (s : Settings) (files : Option (List File)) (a b c d : ℕ) → b ≡ a → MayHaveRisen c d → HasStatus (runs s) files a b c d 6
status_unwritten s files a b c d shelf risen = record {
  is_one = omega arith;
  some_refused = λ _. tt;
  bad_line = λ _. tt;
  usage = λ e. absurd (omega (arith, e));
  refused = λ e. absurd (omega (arith, e));
  differs = λ e. absurd (omega (arith, e));
  missing = λ e. absurd (omega (arith, e));
  reads = λ e. absurd (omega (arith, e));
  sink = λ _. risen;
  shelf_never_falls = omega (arith, shelf);
  sink_never_falls = risen.0;
  shelf_kept = λ _. shelf;
  sink_kept = λ n. absurd (n refl);
  shelf_rose = λ h. absurd (omega (arith, h, shelf));
  sink_rose = λ _. refl;
}
