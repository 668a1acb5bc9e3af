use Rattle.std.proofs.Common.{refl, inl, inr}
use Rattle.one_index.proofs.MergeLaws.{empty_merge, known_mergeable, merge_swapped}
use Rattle.one_index.proofs.merging.mergeable.Goals as goal

pub returns-then-not-has_members : goal.returns-then-not-has_members
returns-then-not-has_members c = λ g graph viewed. (
  λ h. empty_merge g c.args.summary.now graph viewed c.args.a c.args.b (inl (c.has_members.ensures.no c.if-not-has_members.true)),
  λ can. refl,
)

pub returns-then-not-has_members-2 : goal.returns-then-not-has_members-2
returns-then-not-has_members-2 c = λ g graph viewed. (
  λ h. empty_merge g c.args.summary.now graph viewed c.args.a c.args.b (inr (c.has_members-2.ensures.no c.if-not-has_members-2.true)),
  λ can. refl,
)

pub returns-then-parents : goal.returns-then-parents
returns-then-parents c = λ g graph viewed.
    let q = c.args.summary.now in
    let u = c.has_members.ensures.yes c.if-not-has_members.false in
    let v = c.has_members-2.ensures.yes c.if-not-has_members-2.false in
    known_mergeable g q graph viewed c.args.a c.args.b u.0 v.0 u.1 v.1 c.agree_as_one.result
    (λ h. merge_swapped q c.args.b c.args.a (c.agree_as_one.ensures.yes h)) (λ h alike. c.agree_as_one.ensures.no h (merge_swapped q c.args.a c.args.b alike))

pub returns : goal.returns
returns c = λ g graph viewed.
    let u = c.has_members.ensures.yes c.if-not-has_members.false in
    let v = c.has_members-2.ensures.yes c.if-not-has_members-2.false in
    known_mergeable g c.args.summary.now graph viewed c.args.a c.args.b u.0 v.0 u.1 v.1 c.agree_as_one-2.result c.agree_as_one-2.ensures.yes c.agree_as_one-2.ensures.no
