use Rattle.std.{proofs.Common.{◌≡◌, ◌↔◌, Bool, Option, None, IsTrue, ap, ◌∙◌, arith}, specs.{Prelude.{if◌then◌else◌}, Option.{option_map}}}
use Rattle.nntp_wire.specs.{Name.{IsGroupName}, Decided.{is_group_name}, Listing.{ActiveValue}, Inner.View.{active_value}}
use Rattle.nntp_wire.proofs.active_lines.active_words.Goals as goal

no_name : (test : Bool) (P : Type 0) (read : Option ActiveValue) → IsTrue test ↔ P → (P → ⊥) → None ≡ (if test then read else None)
no_name test P read iff never = grind arith

pub returns-in_err-parse : goal.returns-in_err-parse
returns-in_err-parse c =
    let name = c.args.name.now in
    ap (option_map active_value) c.from_residual.ensures ∙ no_name (is_group_name name) (IsGroupName name) _ (c.group_names_are_decided.ensures name) c.in_err-parse.ensures
