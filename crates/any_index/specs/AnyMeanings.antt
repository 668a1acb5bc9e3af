-- What an index of any of the four kinds means: what the index that it holds means.
use Rattle.index_api.specs.Meanings.{Meaning}
use Rattle.bisim_spec.specs.declared.sides.Sides.TheVariants.{Parents, Both}
use Rattle.kept_levels.specs.KeptFamilies as family
use Rattle.one_maintain.specs.KeptQuotients as one
use Rattle.fb_index.specs.FbMeanings as fb
use Rattle.any_index.specs.declared.any.AnyIndex.{AnyIndex}
use Rattle.any_index.specs.declared.any.AnyIndex.TheVariants.{A, One, Fb, B}

-- what the index means, by its kind
abbrev pub meaning_of : AnyIndex → Meaning
meaning_of (A index) = family.meaning_of Parents index.kept
meaning_of (One index) = one.meaning_of index.kept
meaning_of (Fb index) = fb.meaning_of index.summary index.is_staged
meaning_of (B index) = family.meaning_of Both index.kept
