-- What the types of src/ mean: their values without where these lie in memory.
use Rattle.std.specs.Option.{option_copied}
use Rattle.nntp_wire.specs.Command.{Target, by_id, by_number, current, Request, capabilities, mode_reader, next, last, quit, opaque, ill_formed, group}
use Rattle.nntp_wire.specs.Command.{Overviewed, the_id, in_range, the_current, over, list_group, retrieve, list_active}
use Rattle.nntp_wire.specs.declared.command.{WhichArticles.{WhichArticles, TheVariants.{Id as TheId, Range as InRange, Current as TheCurrent}}, Which.{Which}}
use Rattle.nntp_wire.specs.declared.command.{Which.TheVariants.{Id, Number, Current}, Command.{Command, TheVariants.{Capabilities, ModeReader, Group}}}
use Rattle.nntp_wire.specs.declared.command.{Command.TheVariants.{ListGroup, Next, Last, Retrieve, ListActive, Over, Quit, Opaque, IllFormed}, Prompt.{Prompt}}
use Rattle.nntp_wire.specs.declared.{command.Prompt.TheVariants.{Greeting, To}, overview_lines.OverviewLine.{OverviewLine}}
use Rattle.nntp_wire.specs.{declared.active_lines.ActiveLine.{ActiveLine}, Listing.{OverviewValue, ActiveValue}, Answer.{Asked, greeting, to}}

abbrev pub target : Which → Target
target (Id word) = by_id word.now
target (Number n) = by_number n
target Current = current

abbrev pub overviewed : WhichArticles → Overviewed
overviewed (TheId word) = the_id word.now
overviewed (InRange range) = in_range range
overviewed TheCurrent = the_current

-- what the command asks for
abbrev pub request : Command → Request
request Capabilities = capabilities
request ModeReader = mode_reader
request (Group name) = group name.now
request (ListGroup name range) = list_group (option_copied name) range
request Next = next
request Last = last
request (Retrieve what which) = retrieve what (target which)
request (ListActive wildmat) = list_active wildmat
request (Over keyword which) = over keyword (overviewed which)
request Quit = quit
request Opaque = opaque
request IllFormed = ill_formed

-- what is answered under the prompt
abbrev pub asked : Prompt → Asked
asked Greeting = greeting
asked (To command) = to (request command)

-- what the line says of an article
abbrev pub overview_value : OverviewLine → OverviewValue
overview_value line = record { number = line.number; id = line.id; told = line.told }

-- what the line says
abbrev pub active_value : ActiveLine → ActiveValue
active_value line = record { name = line.name; high = line.high; low = line.low; status = line.status.now }
