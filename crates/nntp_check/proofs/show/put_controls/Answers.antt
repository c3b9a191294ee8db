use Rattle.std.proofs.Common.{arith, ◌≡◌, ◌+◌, ◌<◌, ◌≤◌, ◌++◌, append_assoc, add-one, drop-cons, ℕ, List, length, get_or, drop, map}
use Rattle.std.{proofs.lemmas.Grind.{common_steps}, specs.List.{flat_map}}
use Rattle.nntp_article.specs.{Article.Control.{ControlValue}, Inner.View.{control_value}}
use Rattle.nntp_check.specs.Show.{control_line}
use Rattle.nntp_check.proofs.show.put_controls.Goals as goal

-- one more of them is shown
one-more : {X : Type 0} (value : X → ControlValue) (xs : List X) (k : ℕ) (x : X) (text new all : List ℕ) → k < length xs → x ≡ get_or xs k x
    → text ++ flat_map control_line (map value (drop k xs)) ≡ all → new ≡ text ++ control_line (value x) → new ++ flat_map control_line (map value (drop (k + 1) xs)) ≡ all
one-more value xs k x text new all within is known put = grind (arith, add-one, drop-cons, append_assoc)

pub loop-control-preserved : goal.loop-control-preserved
loop-control-preserved g c =
    one-more control_value c.args.controls.now c.loop-control.control-index c.control-item.result c.loop-control.text.items c.put_control.new.text.items
    (c.args.text.now.items ++ flat_map control_line (map control_value c.args.controls.now)) c.loop-control-test.true c.control-item.is c.loop-control.invariant c.in_ok-put_control.ensures

-- all of them are shown
all-shown : {X : Type 0} (value : X → ControlValue) (xs : List X) (k : ℕ) (text all : List ℕ) → length xs ≤ k → text ++ flat_map control_line (map value (drop k xs)) ≡ all → text ≡ all
all-shown value xs k text all behind known = grind (arith, common_steps)

pub returns : goal.returns
returns g c =
    all-shown control_value c.args.controls.now c.loop-control.control-index c.loop-control.text.items
    (c.args.text.now.items ++ flat_map control_line (map control_value c.args.controls.now)) c.loop-control-test.false c.loop-control.invariant
