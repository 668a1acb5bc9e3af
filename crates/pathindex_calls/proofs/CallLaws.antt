-- What a call does, by what it asks for and whether a session is open.
use Rattle.std.proofs.Common.{◌≡◌, ◌≤◌, ℕ, List, Option, Some, None, refl, sym, subst}
use Rattle.change_spec.specs.Steps.{Step}
use Rattle.pathindex_session.specs.declared.opening.Indexes.{Indexes}
use Rattle.pathindex_session.specs.Sessions.{SessionOf}
use Rattle.pathindex_calls.specs.declared.replies.Reply.{Reply}
use Rattle.pathindex_calls.specs.declared.requests.Call.{Call}
use Rattle.pathindex_calls.specs.declared.requests.Request.{Request}
use Rattle.pathindex_calls.specs.declared.requests.Request.TheVariants.{Open, Ask}
use Rattle.pathindex_calls.specs.Requests.{LevelsAreFew}
use Rattle.pathindex_calls.specs.Replies.{misused}
use Rattle.pathindex_calls.specs.Questions.{Checks}
use Rattle.pathindex_calls.specs.Calls.{ObeysCall, Opens, Kept, AsksSession, Calls, ChecksSession}

pub asked : (o : Option SessionOf) (s t : SessionOf) (call : Call) (text : List ℕ) (g h : Option (List Step)) (reply : Reply) → o ≡ Some s → ObeysCall call text s g t h reply
    → AsksSession o call text g (record { session = Some t; group = h }) reply
asked o s t call text g h reply is obeys = subst (λ p. AsksSession p call text g (record { session = Some t; group = h }) reply) (sym is) (t, refl, obeys)

pub not_asked : (o : Option SessionOf) (call : Call) (text : List ℕ) (g : Option (List Step)) → o ≡ None → AsksSession o call text g (record { session = o; group = g }) misused
not_asked o call text g is = subst (λ p. AsksSession p call text g (record { session = p; group = g }) misused) (sym is) (refl, refl)

pub called_open : (r : Option Request) (kept : Indexes) (text : List ℕ) (j : Kept) (o : Option SessionOf) (reply : Reply) → r ≡ Some (Open kept) → Opens kept text o reply
    → Calls r text j (record { session = o; group = None }) reply
called_open r kept text j o reply is opens = subst (λ q. Calls q text j (record { session = o; group = None }) reply) (sym is) (refl, opens)

pub called_ask : (r : Option Request) (call : Call) (text : List ℕ) (o : Option SessionOf) (g : Option (List Step)) (k : Kept) (reply : Reply) → r ≡ Some (Ask call)
    → AsksSession o call text g k reply → Calls r text (record { session = o; group = g }) k reply
called_ask r call text o g k reply is asks = subst (λ q. Calls q text (record { session = o; group = g }) k reply) (sym is) asks

pub called_nothing : (r : Option Request) (text : List ℕ) (k : Kept) → r ≡ None → Calls r text k k misused
called_nothing r text k is = subst (λ q. Calls q text k k misused) (sym is) (refl, refl)

pub checked : (o : Option SessionOf) (s : SessionOf) (text : List ℕ) (v : ℕ) (walk : List ℕ) (reply : Reply) → o ≡ Some s → Checks text v walk s reply → ChecksSession o text v walk reply
checked o s text v walk reply is checks = subst (λ p. ChecksSession p text v walk reply) (sym is) checks

pub not_checked : (o : Option SessionOf) (text : List ℕ) (v : ℕ) (walk : List ℕ) → o ≡ None → ChecksSession o text v walk misused
not_checked o text v walk is = subst (λ p. ChecksSession p text v walk misused) (sym is) refl

pub few : (r : Option Request) (kept : Indexes) → r ≡ Some (Open kept) → LevelsAreFew r → kept.k ≤ 8
few r kept is levels = subst LevelsAreFew is levels
