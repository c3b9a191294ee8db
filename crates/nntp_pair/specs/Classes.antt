-- The class of octets at which a pairing ends, among those of all bad answers (RFC 3977, sections 3.1, 3.2 and 3.5).
use Rattle.nntp_pair.specs.declared.class.{Class.{Class, TheVariants.{Surplus, Cut, Malformed}}, PairClass.{PairClass, TheVariants.{Surplus as PairSurplus}}}
use Rattle.nntp_pair.specs.declared.class.PairClass.TheVariants.{Cut as PairCut, Malformed as PairMalformed}

-- the class of octets at which a pairing ends
abbrev pub class_of : PairClass → Class
class_of PairSurplus = Surplus
class_of PairCut = Cut
class_of PairMalformed = Malformed
