use Rattle.std.proofs.Common.{ap, sym, Err}
use Rattle.std.specs.Prelude.{if◌then◌else◌}
use Rattle.index_saving.proofs.SavedFileLaws.{kept_kind}
use Rattle.index_saving.proofs.saving.count_one.Goals as goal

pub returns-in-Ok-clause-count : goal.returns-in-Ok-clause-count
returns-in-Ok-clause-count g c = ap (λ b. if b then 1 else 0) (sym (kept_kind _ _ _ c.in-Ok.ensures.readied.no_index))

pub returns-in-Err-NoIndex-clause-count : goal.returns-in-Err-NoIndex-clause-count
returns-in-Err-NoIndex-clause-count g c = ap (λ b. if b then 1 else 0) (sym (c.in-Err-NoIndex.ensures.readied.no_index.0 (ap Err c.in-Err-NoIndex.field-0-is)))
