use Rattle.nntp_kept.proofs.{Base.{is_some, sym, ap, ◌∙◌, rc_str_bytes, is_some-option_map}, Keeping.KeptGroups.{same_id}}
use Rattle.nntp_kept.proofs.details.Details.add_id_at.Goals as goal

pub returns-then-is_some-clause-ids : goal.returns-then-is_some-clause-ids
returns-then-is_some-clause-ids g c each free = same_id c.args.self.now c.args.number (rc_str_bytes c.args.id) c.is_some.result
    (ap is_some (sym c.id.ensures) ∙ is_some-option_map (λ r. r.now) c.id.result
    ∙ sym c.is_some.ensures) c.if-is_some.true free.0 each
