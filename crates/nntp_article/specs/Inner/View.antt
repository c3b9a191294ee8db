-- What the types of src/ mean: their values without where these lie in memory.
use Rattle.nntp_article.specs.{Article.Control.{ControlValue, cancel, new_group, rm_group, other}, declared.article.control_message.Control.{Control}}
use Rattle.nntp_article.specs.declared.article.control_message.Control.TheVariants.{Cancel, NewGroup, RmGroup, Other}

-- what the Control header says
abbrev pub control_value : {A : Type 0} → Control A → ControlValue
control_value (Cancel id) = cancel id.items
control_value (NewGroup name moderated) = new_group name.items moderated
control_value (RmGroup name) = rm_group name.items
control_value (Other content) = other content.items
