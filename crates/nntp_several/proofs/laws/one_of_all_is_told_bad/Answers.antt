use Rattle.nntp_several.proofs.BadForGood.{one_told_of_all, bad_for_good_stays_of_all}
use Rattle.nntp_several.proofs.laws.one_of_all_is_told_bad.Goals as goal

pub returns : goal.returns
returns c = record { one = one_told_of_all; stays = bad_for_good_stays_of_all }
