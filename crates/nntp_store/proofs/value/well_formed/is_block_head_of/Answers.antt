use Rattle.std.{proofs.{Common.{arith, ◌≡◌, true, List, [], ◌∷◌, Option, refl}, lemmas.Bool.{and_from}}, specs.{List.{list_all}, Option.{option_map_or}}}
use Rattle.nntp_wire.specs.{Octets.{is_clean}, Block.{AreClean}}
use Rattle.nntp_article.specs.{Article.Parts.{Id, Line, is_head, said_id}, Session.Machine.{is_same}}
use Rattle.nntp_content.specs.Content.{is_head_of}
use Rattle.nntp_store.proofs.value.well_formed.is_block_head_of.Goals as goal

clean_all : (lines : List Line) → AreClean lines → list_all is_clean lines ≡ true
clean_all [] clean = refl
clean_all (l ∷ ls) clean = and_from (is_clean l) (list_all is_clean ls) clean.0 (clean_all ls clean.1)

-- clean lines that are a head say this id, or none
head_says : (id : Id) (lines : List Line) (said : Option Id) → AreClean lines → is_head lines ≡ true → said_id lines ≡ said → is_head_of id lines ≡ option_map_or (λ s. is_same s id) said true
head_says id lines said clean head e = rw (clean_all lines clean, head, e) refl

pub returns-in-Some-message_id : goal.returns-in-Some-message_id
returns-in-Some-message_id g c = grind (arith, head_says)

pub returns-in-None : goal.returns-in-None
returns-in-None g c = grind (arith, head_says)
