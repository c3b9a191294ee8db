use Rattle.std.{proofs.{Common.{arith, ◌≡◌, ◌++◌, append_assoc, ℕ, List}, lemmas.{Bool.{cond-true}, Result.{on_ok_weaker}}}, specs.Bool.{IsTrue}}
use Rattle.std.specs.List.{flat_map}
use Rattle.nntp_article.specs.Article.{Control.{ControlValue, controls_of}, Parts.{is_head}, Required.{missing_of}}
use Rattle.nntp_article.specs.declared.article.missing_headers.Missing.{Missing}
use Rattle.nntp_check.specs.Show.{control_line, missing_line, under_head}
use Rattle.nntp_check.proofs.show.put_head.Goals as goal

-- what a head tells: its Control headers, and what it lacks
told : (lines head : List (List ℕ)) (before after text : List ℕ) (controls : List ControlValue) (missing : Missing) → IsTrue (is_head lines) → head ≡ lines → controls ≡ controls_of head
    → missing ≡ missing_of head → after ≡ before ++ flat_map control_line controls → text ≡ after ++ missing_line missing → text ≡ before ++ under_head lines
told lines head before after text controls missing is same are lacks put more = grind (arith, append_assoc, cond-true)

pub returns : goal.returns
returns g c = grind (arith, on_ok_weaker, told)
