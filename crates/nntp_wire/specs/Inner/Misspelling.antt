-- What is said with the words of `Misspelling.antt`, and needn't be believed.
use Rattle.std.specs.Prelude.{ℕ, ◌≡◌, ◌+◌, Bool, not, List, [], slice_get, Some, is_some, IfSome, MatchOption, IsTrue, IsFalse}
use Rattle.nntp_wire.specs.{Octets.{is_clean}, Words.{words_of}, Block.{unstuffed}, Listing.{listed_number_of, active_of, number_in_front, id_in_place}}
use Rattle.nntp_wire.specs.{Listing.{number_of_words, listed_id_of, gives_versions}, declared.misspelling.{Due.{Due}, LineFault.{LineFault}}}
use Rattle.nntp_wire.specs.declared.misspelling.LineFault.TheVariants.{BadOctet, SingleDot, NoNumber, NoGroup, NoArticleNumber, NoMessageId, NoListedNumber}
use Rattle.nntp_wire.specs.{declared.misspelling.LineFault.TheVariants.{NoListedId, NoVersions}, Misspelling.{is_argument, has_no_single_dot}}

-- the argument at this place, where the first is at 1, isn't what is due there, or isn't there
pub record IsWrongArgument (dues : List Due) (arguments : List (List ℕ)) (place : ℕ) (due : Due) : Type 0 where
  pub index : ℕ
  pub counted : place ≡ index + 1
  pub is_due : slice_get dues index ≡ Some due
  pub is_other : IfSome (slice_get arguments index) (λ argument. IsFalse (is_argument due argument))

-- the line, as it is sent, has this fault
abbrev pub has_fault : LineFault → List ℕ → Bool
has_fault BadOctet line = not (is_clean line)
has_fault SingleDot line = not (has_no_single_dot line)
has_fault NoNumber line = not (is_some (listed_number_of (unstuffed line)))
has_fault NoGroup line = not (is_some (active_of (unstuffed line)))
has_fault NoArticleNumber line = not (is_some (number_in_front (unstuffed line)))
has_fault NoMessageId line = not (is_some (id_in_place (unstuffed line)))
has_fault NoListedNumber line = not (is_some (number_of_words (words_of (unstuffed line))))
has_fault NoListedId line = not (is_some (listed_id_of (unstuffed line)))
has_fault NoVersions line = not (gives_versions (words_of (unstuffed line)))

-- the line at this place, where the first is at 1, has this fault; or there is no line that could give versions
pub record IsWrongLine (lines : List (List ℕ)) (place : ℕ) (fault : LineFault) : Type 0 where
  pub index : ℕ
  pub counted : place ≡ index + 1
  pub is_wrong : MatchOption (slice_get lines index) ((fault ≡ NoVersions) × (lines ≡ [])) (λ line. IsTrue (has_fault fault line))
