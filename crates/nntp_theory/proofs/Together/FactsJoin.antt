-- More facts behind those that stand together.
use Rattle.nntp_wire.specs.{declared.marks.Marks.{Marks}, Answer.{Asked, Response}}
use Rattle.std.proofs.{Common.{◌≡◌, ◌↔◌, List, [], ◌++◌, sym, subst, arith}, lemmas.Grind.{flat_map-append}}
use Rattle.nntp_article.specs.{Session.{Spool.{Name}, Machine.{Visible}}, declared.session.profile.Profile.{Profile}}
use Rattle.nntp_said.{specs.{declared.position.Position.{Position}, Facts.{Fact, facts_of}}, proofs.Rows.{Row, row}}
use Rattle.nntp_theory.specs.{Given.{asks_in, asks_of, shows_group, id_in, head_in, fields_in, body_in}, Inner.Together.{IsWellFormed, AgreesWithItself}}
use Rattle.nntp_theory.specs.{Inner.Together.{AsksStand, Together, AgreeWithin, Join}, Together.{denies_group, number_in, shows_article, denies_article}}
use Rattle.nntp_theory.proofs.{Members.{all_both, all_back}, Together.TwoListsOfFacts.{apart_both, apart_shown, apart_denied, give_one_both, give_same_of_both}}

-- what both ask of a group
pub asks_append : (name : Name) (facts more : List Fact) → asks_of name (facts ++ more) ≡ asks_of name facts ++ asks_of name more
asks_append name facts more = flat_map-append (asks_in name) facts more

-- ---- more facts

-- where all stands together, more facts that agree with one another do exactly if they join
pub together_more : (facts more : List Fact) → Together facts → AgreeWithin more → Together (facts ++ more) ↔ Join facts more
together_more facts more t w = (
  λ h. record {
    well_formed = all_back IsWellFormed facts more h.well_formed;
    lists = all_back AgreesWithItself facts more h.lists;
    names = search (apart_shown, apart_denied, h.groups);
    numbers = λ name. subst AsksStand (asks_append name facts more) (h.numbers name);
    ids = search (give_same_of_both, h.ids, h.ids_once);
    articles = search (apart_shown, apart_denied, give_same_of_both, h.articles, h.heads, h.fields, h.bodies);
  },
  λ j. record {
    well_formed = all_both IsWellFormed facts more t.well_formed j.well_formed;
    lists = all_both AgreesWithItself facts more t.lists j.lists;
    groups = λ name. apart_both (shows_group name) (denies_group name) facts more (t.groups name) (w.groups name) (j.names.groups name) (j.names.no_groups name);
    numbers = λ name. subst AsksStand (sym (asks_append name facts more)) (j.numbers name);
    ids = λ name n. give_one_both (id_in name n) facts more (t.ids name n) (w.ids name n) (j.ids.ids name n);
    ids_once = λ name id. give_one_both (number_in name id) facts more (t.ids_once name id) (w.ids_once name id) (j.ids.ids_once name id);
    articles = λ id. apart_both (shows_article id) (denies_article id) facts more (t.articles id) (w.articles id) (j.articles id).shown (j.articles id).denied;
    heads = λ id. give_one_both (head_in id) facts more (t.heads id) (w.heads id) (j.articles id).head;
    fields = λ id. give_one_both (fields_in id) facts more (t.fields id) (w.fields id) (j.articles id).fields;
    bodies = λ id. give_one_both (body_in id) facts more (t.bodies id) (w.bodies id) (j.articles id).body;
  },
)

-- ---- what an answer says agrees with itself

module _ {profile : Profile} {v : Visible} {at : Position} {Fits : Type 0} where
  -- so it agrees with itself: of all else it says one thing at most
  row_agrees : {a : Response} {facts : List Fact} → Row profile v at Fits a facts → AgreeWithin facts
  row_agrees r = grind arith

-- so does an answer
pub answer_agrees : (how : Marks) (v : Visible) (at : Position) (asked : Asked) (response : Response) → AgreeWithin (facts_of how v at asked response)
answer_agrees how v at asked response = row_agrees (row (record { limit = 0; marks = how }) v at asked response)

-- and no facts do
pub none_agrees : AgreeWithin []
none_agrees = assumption
