use Rattle.std.proofs.{Common.{◌≡◌, List, [], ◌∷◌, length, Option, sym, ap, ◌∙◌, arith, rules}, lemmas.Grind.{common_steps}}
use Rattle.nntp_wire.specs.Inner.Held.{held}
use Rattle.nntp_article.specs.{Article.Parts.{Line, Id}, Inner.SaidId.{id_by}, declared.article.said_id.SaidId.{SaidId}}
use Rattle.nntp_article.proofs.article.said_id.id_of.Goals as goal

-- where a line is noted, those behind it say with it what they said before
noted_more : (new said : SaidId) (left behind : List Line) (line octets : Line) (id : Option Id) → id_by new behind ≡ id_by said (line ∷ behind)
    → line ≡ octets → left ≡ octets ∷ behind → id_by said left ≡ id → id_by new behind ≡ id
noted_more new said left behind line octets id noted is first before = noted ∙ ap (λ l. id_by said (l ∷ behind)) is ∙ ap (id_by said) (sym first) ∙ before

pub loop-line-preserved : goal.loop-line-preserved
loop-line-preserved g c =
    noted_more c.note.new.self c.loop-line.said (held c.loop-line.rest.now) (held c.in-Some.others.now) c.deref.result.now c.in-Some.line.now.items _ (c.note.ensures (held c.in-Some.others.now))
    c.deref.ensures.value (ap held c.in-Some.ensures.cases.0) c.loop-line.invariant

none : {X : Type 0} (xs : List X) → length xs ≡ 0 → xs ≡ []
none xs e = grind (arith, common_steps)

pub returns : goal.returns
returns g c = search (rules, none)

pub loop-line-init : goal.loop-line-init
loop-line-init g c = c.new-said.ensures (held c.args.lines.now)
