-- What the keywords of src/keyword.rt mean.
use Rattle.std.specs.Prelude.{ℕ, List}
use Rattle.nntp_wire.specs.Command.{Request, capabilities_of, mode_of, group_of, list_group_of, alone, next, last, quit, retrieve_of, list_of, over_of, hdr_of}
use Rattle.nntp_wire.specs.declared.keyword.Keyword.{Keyword, TheVariants.{Capabilities, Mode, Group, ListGroup, Next, Last, Quit, Retrieve}}
use Rattle.nntp_wire.specs.declared.keyword.Keyword.TheVariants.{List as ListKeyword, Over, Hdr}

-- what the keyword makes of the words after it
abbrev pub form : Keyword → List (List ℕ) → Request
form Capabilities = capabilities_of
form Mode = mode_of
form Group = group_of
form ListGroup = list_group_of
form Next = alone next
form Last = alone last
form Quit = alone quit
form (Retrieve what) = retrieve_of what
form ListKeyword = list_of
form (Over keyword) = over_of keyword
form (Hdr keyword) = hdr_of keyword
