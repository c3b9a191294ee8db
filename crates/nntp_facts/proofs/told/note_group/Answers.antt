use Rattle.nntp_facts.proofs.Base.{[], sym, subst, if_ok, AreListed, saying_of, refl, Lenient, widest, a_group}
use Rattle.nntp_kept.proofs.Keeping.SayingRows.{tells_marks}
use Rattle.nntp_facts.proofs.told.note_group.Goals as goal

pub returns : goal.returns
returns g c = if_ok c.note.result (λ does adds profile facts limit kept together.
    let name = c.args.name.now in
    let says = c.of_widest-numbers.ensures in
    adds (subst (λ s. AreListed s (record { numbers = []; groups = []; overviews = [] })) (sym c.selects.ensures.says) (tt, tt))
    facts (a_group profile name) kept together (c.selects.ensures.is_name, (tt, tt))
    (tells_marks {selected = name} facts name _ Lenient (widest profile) (saying_of c.selects.result) (a_group profile name) (says.says profile limit) (says.bounded profile limit)
    c.selects.ensures.says refl).tells) c.note.ensures
