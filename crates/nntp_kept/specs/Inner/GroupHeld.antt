-- What the code's values keep of a group.
use Rattle.nntp_kept.specs.{Inner.{Kept.{KeptGroup}, Between.{group_between}}, declared.group.Held.{Held, TheVariants.{Between, Whole}}}

abbrev pub group_held : {A : Type 0} → Held A → KeptGroup
group_held (Between low high) = group_between low high
group_held (Whole details) = details.value
