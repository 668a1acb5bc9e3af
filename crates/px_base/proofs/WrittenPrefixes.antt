-- Writing a text piece by piece.
use Rattle.std.proofs.Common.{◌≡◌, ◌++◌, List, ℕ, Option, take, sym, ap, append_assoc, ◌∙◌}
use Rattle.std.specs.Io.KnownBytes.{Appends}
use Rattle.std.proofs.KnownBytes.{Appends-trans}

-- a prefix of the bytes is written, rest is left, and no fault came
pub record PutSoFar (bytes : List ℕ) (old : Option (List ℕ)) (faults : ℕ) (rest : List ℕ) (new : Option (List ℕ)) (faults_now : ℕ) : Type 0 where
  pub prefix : List ℕ
  pub bytes_are : bytes ≡ prefix ++ rest
  pub written : Appends old new prefix
  pub no_fault : faults_now ≡ faults

pub put_more : {bytes : List ℕ} {old : Option (List ℕ)} {f : ℕ} {rest : List ℕ} {mid : Option (List ℕ)} {g : ℕ}
    → PutSoFar bytes old f rest mid g → (n : ℕ) (next : List ℕ) (new : Option (List ℕ)) (h : ℕ)
    → Appends mid new (take n rest) → h ≡ g → rest ≡ take n rest ++ next → PutSoFar bytes old f next new h
put_more {old = old} {rest = rest} {mid = mid} p n next new h written same split = record {
  prefix = p.prefix ++ take n rest;
  bytes_are = p.bytes_are ∙ ap (λ r. p.prefix ++ r) split ∙ sym (append_assoc p.prefix (take n rest) next);
  written = Appends-trans old mid new p.prefix (take n rest) p.written written;
  no_fault = same ∙ p.no_fault;
}
