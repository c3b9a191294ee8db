use Rattle.std.proofs.{Common.{◌∙◌, ◌++◌, [], refl}, lemmas.Result.{err_from_is_err_and}}
use Rattle.nntp_witness.{specs.Inner.Making.{unshown_of, unseen_number}, proofs.{Faults.{memory_passed}, GroupSteps.{group_refused, numbers_next, group_makes}}}
use Rattle.nntp_witness.proofs.maker.SpoolMaker.add_group.Goals as goal

pub returns-in_err-group : goal.returns-in_err-group
returns-in_err-group g c said G left stands w l =
    let p = err_from_is_err_and c.from_residual.result c.from_residual.ensures.1 in
    rw p.1 (p.2 ∙ group_refused c.args.facts.now.limit said G w.given w.is_spool c.args.group.now left c.args.self.now.builder
    c.args.self.now.next l c.name-name.result.now c.in_err-group.field-0.0 c.group.new.self c.name-name.ensures
    c.in_err-group.ensures)

pub returns-in_err-add_unseen : goal.returns-in_err-add_unseen
returns-in_err-add_unseen g c said G left stands w l =
    let b = c.args.self.now.builder in
    let shown = c.args.group.now in
    let ready = numbers_next c.args.facts.now.limit said G w.given w.is_spool shown left b c.args.self.now.next l c.name-name.result.now
    c.unseen.result shown.unseen_high shown.numbers c.in_ok-group.field-0 c.group.new.self
    c.name-name.ensures c.unseen.ensures refl refl c.in_ok-group.ensures in
    memory_passed c.from_residual-in_err-add_unseen.result _ c.in_err-add_unseen.field-0.0 c.from_residual-in_err-add_unseen.ensures
    (c.in_err-add_unseen.ensures said G b.spool (unshown_of G left) (shown.numbers ++ (unseen_number shown.unseen_high ++ [])) stands w ready)

pub returns-in_err-add_shown : goal.returns-in_err-add_shown
returns-in_err-add_shown g c said G left stands w l =
    let b = c.args.self.now.builder in
    let shown = c.args.group.now in
    let ready = numbers_next c.args.facts.now.limit said G w.given w.is_spool shown left b c.args.self.now.next l c.name-name.result.now
    c.unseen.result shown.unseen_high c.numbers.result c.in_ok-group.field-0 c.group.new.self
    c.name-name.ensures c.unseen.ensures c.numbers.ensures refl c.in_ok-group.ensures in
    memory_passed c.from_residual-in_err-add_shown.result _ c.in_err-add_shown.field-0.0 c.from_residual-in_err-add_shown.ensures
    (c.in_err-add_shown.ensures said G b.spool (unshown_of G left) (unseen_number shown.unseen_high ++ []) stands w
    (c.in_ok-add_unseen.ensures said G b.spool (unshown_of G left) (c.numbers.result ++ (unseen_number shown.unseen_high ++ [])) stands w ready))

pub returns : goal.returns
returns g c said G left stands w l =
    let b = c.args.self.now.builder in
    let shown = c.args.group.now in
    let ready = numbers_next c.args.facts.now.limit said G w.given w.is_spool shown left b c.args.self.now.next l c.name-name.result.now
    c.unseen.result c.unseen_high.result c.numbers.result c.in_ok-group.field-0 c.group.new.self
    c.name-name.ensures c.unseen.ensures c.numbers.ensures c.unseen_high.ensures c.in_ok-group.ensures in
    group_makes c.args.facts.now.limit said G w.given w.is_spool shown left b
    c.args.self.now.next l c.name-name.result.now c.add_unseen-2.result c.add_unseen-2.new.self.builder
    c.add_unseen-2.new.self.next c.name-name.ensures
    (c.add_unseen-2.ensures said G b.spool (unshown_of G left) [] stands w
    (c.in_ok-add_shown.ensures said G b.spool (unshown_of G left) (unseen_number c.unseen_high.result ++ []) stands w
    (c.in_ok-add_unseen.ensures said G b.spool (unshown_of G left) (c.numbers.result ++ (unseen_number c.unseen_high.result ++ [])) stands w ready)))
