use Rattle.std.proofs.Common.{◌≡◌, ℕ, Bool, false, Result, Ok, Some, refl, sym, subst, ap, ◌∙◌}
use Rattle.nntp_article.specs.{Article.Parts.{Line}, Session.Spool.{Name, Spool}}
use Rattle.nntp_store.specs.{Fields.{fields_of, OpeningValue, Group, opening_of}, Inner.{Reading.{Gives}, ReadingView.{opening_shown, turn_of, turn_shown}}}
use Rattle.nntp_store.specs.{Reading.{Place, Turn, line_at, group_at, item_then, item_at}, declared.text.place.Turn.{Turn as TurnInCode}}
use Rattle.nntp_store.specs.declared.text.read_fault.{ReadError.{ReadError}, ReadFault.{ReadFault}}
use Rattle.nntp_store.proofs.text.read.item_at.Goals as goal

-- an item is read as its line says
item_is : (limit : ℕ) (articles : Bool) (S : Spool) (p : Place) (l : Line × Place) (said item : OpeningValue) → line_at p ≡ Ok l → Some said ≡ opening_of (fields_of l.0)
    → said ≡ item → item_at limit articles S p ≡ item_then limit p.line articles S l.1 item
unfolding item_at
item_is limit articles S p l said item line opens is = rw (line, ← opens, is) refl

-- a group where no article stands before it
group_is : (limit line : ℕ) (articles : Bool) (name : Name) (count : ℕ) (S : Spool) (p : Place) → articles ≡ false
    → item_then limit line articles S p (Group name count) ≡ turn_of false (group_at limit line name count S p)
group_is limit line articles name count S p first = rw first refl

given : {A : Type 0} (S : Spool) (r : Result (TurnInCode A) ReadError) (x y : Result Turn ReadFault) → x ≡ y → Gives (turn_shown S) r y → Gives (turn_shown S) r x
given S r x y e p = subst (λ z. Gives (turn_shown S) r z) (sym e) p

pub returns-else-articles : goal.returns-else-articles
returns-else-articles g c = given _ c.group_at.result _ _ (item_is c.args.limit c.args.articles _ _ _ _ _ c.in_ok-line.ensures c.in-Some.ensures (ap opening_shown c.in-Group.is)
    ∙ group_is c.args.limit _ _ _ _ _ _ c.if-articles.false) c.group_at.ensures

pub returns-in-Article : goal.returns-in-Article
returns-in-Article g c =
    given _ c.article_at.result _ _ (item_is c.args.limit c.args.articles _ _ _ _ _ c.in_ok-line.ensures c.in-Some.ensures (ap opening_shown c.in-Article.is)) c.article_at.ensures

pub returns-in-End : goal.returns-in-End
returns-in-End g c =
    given _ c.ends_at.result _ _ (item_is c.args.limit c.args.articles _ _ _ _ _ c.in_ok-line.ensures c.in-Some.ensures (ap opening_shown c.in-End.is)) c.ends_at.ensures
