use Rattle.std.proofs.Common.{◌≡◌, ℕ, ◌<◌, true, ◌++◌, ◌∙◌, ap, sym, length}
use Rattle.std.specs.Prelude.{string_bytes}
use Rattle.std.specs.List.{flat_map}
use Rattle.graph_spec.specs.Members.{has}
use Rattle.extent_report.specs.MemberChains.{is_first_member}
use Rattle.extent_report.specs.Summaries.{line_at}
use Rattle.extent_report.proofs.Summed.{gathered, line_at_other}
use Rattle.extent_report.proofs.LeastMembers.{begun_below}
use Rattle.extent_report.proofs.RisingLists.{texts_listed, count_listed}
use Rattle.extent_report.proofs.gathered.text_by_members.Goals as goal

pub returns : goal.returns
returns c =
    let p = c.args.summary.now.blocks in
    let texts = c.args.labels.now.texts in
    let nodes = c.in_ok-nodes.nodes.items in
    let all = length p.block_of in
    let begun = c.in_ok-nodes.ensures.is_first_member in
    let rising = c.in_ok-nodes.ensures.rising in
    let labelled = c.requires.labelled in
    let below : (k : ℕ) → has nodes k ≡ true → k < all = λ k h. begun_below p k (sym (begun k) ∙ h) in
    let lines = sym (texts_listed (line_at texts p) all nodes rising below (λ k off. line_at_other texts p labelled k (sym (begun k) ∙ off))) in
    c.from_string.ensures
    ∙ gathered texts p labelled c.len.result _ _ _ (c.len.ensures ∙ sym c.deref.ensures.len ∙ ap length c.deref.ensures.value ∙ sym (count_listed (is_first_member p) all nodes rising below begun)) c.new-out.ensures.bytes c.in_ok-push_count.ensures
    (c.in_ok-push_blocks.ensures
    ∙ ap (λ l. string_bytes c.push_count.new.out ++ flat_map (line_at texts p) l) c.deref.ensures.value
    ∙ ap (λ t. string_bytes c.push_count.new.out ++ t) lines)
