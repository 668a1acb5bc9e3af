use Rattle.std.proofs.Common.{◌≡◌, ◌<◌, ◌++◌, ◌∷◌, [], false, length, sym, ap, ◌∙◌, subst, arith}
use Rattle.std.specs.Prelude.{if◌then◌else◌}
use Rattle.graph_spec.specs.Graphs.{is_seen}
use Rattle.index_file.specs.ReadLabels.{AreReadLabels}
use Rattle.index_file.proofs.ReadLabelLaws.{labels_more}
use Rattle.index_file.proofs.read_labels.ReadLabels.put.Goals as goal

pub invariant_of-self-2 : goal.invariant_of-self-2
invariant_of-self-2 c =
    let old = c.self.inside.texts.keys in
    let label = c.args.label in
    let unseen : is_seen old label ≡ false = ap (λ k. is_seen k label) c.self.view_is ∙ c.requires.unseen in
    let keys : c.insert.new.self.keys ≡ old ++ label ∷ [] = c.in_ok-insert.ensures.keys ∙ ap (λ b. if b then old else (old ++ label ∷ [])) unseen in
    let few : length old < 4294967295 = (let f = c.requires.few in let e = ap length c.self.view_is in omega (arith, f, e)) in
    subst AreReadLabels (sym keys) (labels_more old label c.self.invariant unseen few c.requires.spelled)
