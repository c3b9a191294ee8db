-- The fault of a run that a fault of its parts is.
use Rattle.nntp_pair.specs.declared.pair_error.PairError.{PairError}
use Rattle.nntp_store.specs.declared.text.read_fault.{Kind.{Kind}, ReadFault.{ReadFault}}
use Rattle.nntp_check.specs.declared.{capture_reader.BadPiece.{BadPiece}, run_fault.RunFault.{RunFault, TheVariants.{Capture, Spool, Memory, TooLong}}}
use Rattle.nntp_pair.specs.declared.pair_error.PairError.TheVariants as errors
use Rattle.nntp_store.specs.declared.text.read_fault.Kind.TheVariants as kinds

-- a bad piece of the capture
abbrev pub of_capture : BadPiece → RunFault
of_capture bad = Capture bad.piece

-- why the octets of a stream aren't taken
abbrev pub of_error : PairError → RunFault
of_error errors.Memory = Memory
of_error errors.Failed = Memory
of_error errors.TooLong = TooLong

-- want of memory while a text is read is told as such
abbrev pub of_kind : ReadFault → Kind → RunFault
of_kind fault kinds.Memory = Memory
of_kind fault kind = Spool fault

-- the fault of a run over a text that is no spool's
abbrev pub of_text : ReadFault → RunFault
of_text fault = of_kind fault fault.kind
