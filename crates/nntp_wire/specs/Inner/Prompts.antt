-- What of a prompt decides whether a block is due after a code, and whether the server closes the connection.
use Rattle.nntp_wire.specs.{Command.{mode_reader, quit, list_group}, Answer.{Asked, greeting, to}, declared.prompt_kind.PromptKind.{PromptKind}}
use Rattle.nntp_wire.specs.declared.prompt_kind.PromptKind.TheVariants.{Greeting, ListGroup, ModeReader, Quit, Other}

-- the kind of what is answered
abbrev pub prompt_kind : Asked → PromptKind
prompt_kind greeting = Greeting
prompt_kind (to (list_group name range)) = ListGroup
prompt_kind (to mode_reader) = ModeReader
prompt_kind (to quit) = Quit
prompt_kind asked = Other
