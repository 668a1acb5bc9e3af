-- Texts that spell a label or a triple, by what their readers answer.
use Rattle.std.proofs.Common.{◌≡◌, ◌⊎◌, ℕ, List, Option, Some, None, Result, Ok, Err, IfOk, IfSome, refl, subst, inl, inr}
use Rattle.std.specs.Prelude.{IsErrOf}
use Rattle.change_spec.specs.Steps.{Step}
use Rattle.triples_read.specs.declared.term.Triple.{Triple}
use Rattle.triples_read.specs.declared.line.LineError.{LineError}
use Rattle.triples_read.specs.declared.line.LineError.TheVariants as line_error
use Rattle.triples_read.specs.Lines.{SpellsTriple}
use Rattle.path_query.specs.Labels.{SpellsLabel}
use Rattle.px_base.specs.declared.allocation.Memory.{Memory}
use Rattle.pathindex_session.specs.Sessions.{SessionOf}
use Rattle.pathindex_calls.specs.declared.replies.Reply.{Reply}
use Rattle.pathindex_calls.specs.Replies.{misspelled}
use Rattle.pathindex_calls.specs.Changes.{read, wrong, ReadsTriple, Steps, Labels}

pub label_read : (step : List ℕ → Step) (text label : List ℕ) (s t : SessionOf) (g h : Option (List Step)) (reply : Reply) (answer : Result (Option (List ℕ)) Memory) → answer ≡ Ok (Some label)
    → IfOk answer (λ r. IfSome r (λ l. SpellsLabel text l)) → Steps (step label) s g t h reply → Labels step text s g t h reply
label_read step text label s t g h reply answer is found steps = read label (subst (λ a. IfOk a (λ r. IfSome r (λ l. SpellsLabel text l))) is found) steps

pub triple_read : (Goes : Triple → SessionOf → SessionOf → Reply → Type 0) (text : List ℕ) (x : Triple) (s t : SessionOf) (reply : Reply) (answer : Result (Option Triple) LineError) → answer ≡ Ok (Some x)
    → IfOk answer (λ r. IfSome r (λ y. SpellsTriple text y)) → Goes x s t reply → ReadsTriple Goes text s t reply
triple_read Goes text x s t reply answer is found goes = read x (subst (λ a. IfOk a (λ r. IfSome r (λ y. SpellsTriple text y))) is found) goes

none_spelled : (a : Result (Option Triple) LineError) → a ≡ Ok None → (x : Triple) → (a ≡ Ok (Some x)) ⊎ IsErrOf a line_error.Memory → ⊥
none_spelled a none x (inl same) = cc
none_spelled a none x (inr memory) = (let e : a ≡ Err line_error.Memory = memory in cc)

pub no_triple : (Goes : Triple → SessionOf → SessionOf → Reply → Type 0) (text : List ℕ) (s : SessionOf) (reply : Reply) (answer : Result (Option Triple) LineError) → answer ≡ Ok None
    → ((x : Triple) → SpellsTriple text x → (answer ≡ Ok (Some x)) ⊎ IsErrOf answer line_error.Memory) → reply ≡ misspelled → ReadsTriple Goes text s s reply
no_triple Goes text s reply answer is spelled said = wrong (λ x spells. none_spelled answer is x (spelled x spells)) refl said
