use Rattle.branch_expr.proofs.meeting.deny_far.Goals as goal

pub returns-clause-spared : goal.returns-clause-spared
returns-clause-spared g c x = (
  λ m. let p = (c.subtract.ensures.members x).0 m in (p.0, λ led. p.1 ((c.in_ok-led.ensures.image x).1 led)),
  λ p. (c.subtract.ensures.members x).1 (p.0, λ m. p.1 ((c.in_ok-led.ensures.image x).0 m)),
)
