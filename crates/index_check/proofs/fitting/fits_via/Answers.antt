use Rattle.std.proofs.Common.{true≢false, sym}
use Rattle.index_check.proofs.fitting.fits_via.Goals as goal

pub returns-in-Data : goal.returns-in-Data
returns-in-Data g c = rw c.in-Data.is (λ h. absurd (true≢false (sym h)), λ h. absurd h)

pub returns-in-A : goal.returns-in-A
returns-in-A g c = rw c.in-A.is c.fits_level.ensures

pub returns-in-One : goal.returns-in-One
returns-in-One g c = rw c.in-One.is c.is_stable_minimal.ensures

pub returns-in-Fb : goal.returns-in-Fb
returns-in-Fb g c = rw c.in-Fb.is c.fits_both.ensures

pub returns-in-B : goal.returns-in-B
returns-in-B g c = rw c.in-B.is c.fits_level_both.ensures
