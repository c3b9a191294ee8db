-- What the reasons of src/session/misfit.rt mean.
use Rattle.std.specs.Prelude.{Option, option_map}
use Rattle.nntp_article.specs.Session.Misfit.{Misfit as Why, wrong_code, wrong_name, wrong_number, wrong_id, below_low, wrong_marks, beyond_limit, not_above}
use Rattle.nntp_article.specs.{Session.Misfit.{beyond_range, unmatched, listed_twice, wrong_lines, no_head, other_id}, declared.session.misfit.Misfit.{Misfit}}
use Rattle.nntp_article.specs.declared.session.misfit.Misfit.TheVariants.{WrongCode, WrongName, WrongNumber, WrongId, BelowLow, WrongMarks, BeyondLimit}
use Rattle.nntp_article.specs.declared.session.misfit.Misfit.TheVariants.{NotAbove, BeyondRange, Unmatched, ListedTwice, WrongLines, NoHead, OtherId}

-- the reason, without where its octets lie in memory
abbrev pub why : Misfit → Why
why (WrongCode code allowed) = wrong_code code allowed.now
why (WrongName name) = wrong_name name.now
why (WrongNumber number) = wrong_number number
why (WrongId id) = wrong_id id.now
why (BelowLow low) = below_low low
why (WrongMarks name) = wrong_marks name.now
why (BeyondLimit number) = beyond_limit number
why (NotAbove before number) = not_above before number
why (BeyondRange number) = beyond_range number
why (Unmatched name) = unmatched name.now
why (ListedTwice word) = listed_twice word.now
why WrongLines = wrong_lines
why NoHead = no_head
why (OtherId said) = other_id said.now

-- the same of a reason that may be
abbrev pub why_if : Option Misfit → Option Why
why_if reason = option_map why reason
