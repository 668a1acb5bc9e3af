-- A loaded graph after inserts and deletes is, up to the numbers of nodes, the loaded graph of the triples that are present.
use Rattle.std.proofs.Common.{◌≡◌, ℕ, List, Option, Some, None, sym, subst, IsTrue}
use Rattle.graph_spec.specs.declared.limits.Limits.{Limits}
use Rattle.graph_spec.specs.Lines.{cut}
use Rattle.graph_spec.specs.Graphs.{Graph}
use Rattle.px_base.specs.Files.{File}
use Rattle.triples_read.specs.declared.term.Triple.{Triple}
use Rattle.triple_names.specs.Names.{Names}
use Rattle.triple_names.specs.Represented.{Represents, is_among}
use Rattle.triple_names.specs.Histories.{edited_all}
use Rattle.triple_names.proofs.ItemLaws.{agree}
use Rattle.triple_names.proofs.HistoryLaws.{edits_keep, represented_alike}
use Rattle.graph_load.specs.Loads.{LoadsNamed, RepresentsText, SpelledIn, IsAsLoaded, StaysAsLoaded}
use Rattle.graph_load.specs.LoadSteps.{RepresentsFile, StaysAsFile}
use Rattle.graph_load.proofs.LoadedTexts.{text_represented}

-- what a text loads to represents its triples
named_represents : (limits : Limits) (text : List ℕ) (g : Graph) (n : Names) → LoadsNamed limits text g n → RepresentsText text g n
named_represents limits text g n l = subst (λ h. RepresentsText text h n) (sym l.graph) (text_represented limits text l.state n l.ends l.names)

as_loaded : (g : Graph) (n : Names) (s : List Triple) → Represents g n s → IsAsLoaded g n s
as_loaded g n s r limits text h k l same =
    let there = named_represents limits text h k l in
    represented_alike g h n k s there.0 r there.1 (λ t. agree (is_among s t) (is_among there.0 t) (λ a. (there.2 t).1 ((same t).0 a)) (λ b. (same t).1 ((there.2 t).0 b)))

text_stays : (text : List ℕ) (g : Graph) (n : Names) → RepresentsText text g n → StaysAsLoaded text g n
text_stays text g n r = (r.0, r.2, λ limits es h k e. as_loaded h k (edited_all es r.0) (edits_keep limits es g h n k r.0 r.1 e))

pub file_stays : (files : Option (List File)) (name : List ℕ) (g : Graph) (n : Names) → RepresentsFile files name g n → StaysAsFile files name g n
file_stays None name g n r = tt
file_stays (Some files) name g n r = (r.0, r.1, text_stays r.0 g n r.2)
