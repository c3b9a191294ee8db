use Rattle.std.{proofs.Common.{arith, ◌≡◌, ◌↔◌, ℕ, Bool, List, Option, None, Some, IsTrue, cond}, specs.Option.{SomeIff}}
use Rattle.nntp_wire.specs.{Name.{IsMessageId}, Decided.{is_message_id}}
use Rattle.nntp_wire.proofs.overview_lines.id_of.Goals as goal

-- a value that a test decides
by_test : (test : Bool) (P : Type 0) (v : List ℕ) (r : Option (List ℕ)) → IsTrue test ↔ P → SomeIff r P v → r ≡ cond test (Some v) None
by_test test P v r iff none = grind arith

pub returns : goal.returns
returns c = by_test (is_message_id c.args.word.now) (IsMessageId c.args.word.now) c.args.word.now c.parse.result (c.message_ids_are_decided.ensures c.args.word.now) c.parse.ensures
