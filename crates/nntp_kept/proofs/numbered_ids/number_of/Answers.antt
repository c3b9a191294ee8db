use Rattle.nntp_kept.{proofs.Base.{Some, None, option_map, sym, ap, ◌∙◌, if◌then◌else◌, is_same, place_of}, specs.Inner.IdsHeld.{numbered}}
use Rattle.nntp_kept.proofs.numbered_ids.number_of.Goals as goal

pub returns-in-Some : goal.returns-in-Some
returns-in-Some g c =
    sym (ap (λ held. place_of (option_map numbered held) c.args.id.now) c.in-Some.is
    ∙ ap (λ text. if is_same text c.args.id.now then Some c.in-Some.held.number else None) (sym c.as_str.ensures.value)
    ∙ ap (λ b. if b then Some c.in-Some.held.number else None) (sym c.eq.ensures ∙ c.if-eq.true))

pub returns-in_default : goal.returns-in_default
returns-in_default g c =
    sym (ap (λ held. place_of (option_map numbered held) c.args.id.now) c.in-Some.is
    ∙ ap (λ text. if is_same text c.args.id.now then Some c.in-Some.held.number else None) (sym c.as_str.ensures.value)
    ∙ ap (λ b. if b then Some c.in-Some.held.number else None) (sym c.eq.ensures ∙ c.if-eq.false))
