-- The forms of the library, as the evaluator has them.
use Rattle.awst.specs.Forms as forms
use Rattle.awst_eval.specs.declared.form.Member.{Member}
use Rattle.awst_eval.specs.declared.form.Member.TheVariants as member
use Rattle.awst_eval.specs.declared.form.Form.{Form}
use Rattle.awst_eval.specs.declared.form.Form.TheVariants as form
use Rattle.awst_eval.specs.declared.form.Action.{Action}
use Rattle.awst_eval.specs.declared.form.Action.TheVariants as action

abbrev pub member_shown : Member → forms.Member
member_shown member.Sender = forms.sender
member_shown member.Fee = forms.fee
member_shown member.Note = forms.note
member_shown member.OnCompletion = forms.on_completion
member_shown member.ArgumentCount = forms.argument_count
member_shown member.CalledApplication = forms.called_application
member_shown member.ZeroAddress = forms.zero_address
member_shown member.CreatorAddress = forms.creator_address
member_shown member.Round = forms.round
member_shown member.LatestTimestamp = forms.latest_timestamp
member_shown member.CurrentApplication = forms.current_application

abbrev pub form_shown : Form → forms.Pure
form_shown (form.Instruction op) = forms.instruction op
form_shown (form.Test op) = forms.test op
form_shown (form.HasTruth wanted) = forms.has_truth wanted
form_shown form.NumberOfFlag = forms.number_of_flag
form_shown form.SameBytes = forms.same_bytes
form_shown form.ByteAt = forms.byte_at
form_shown (form.Slice from to) = forms.slice from to
form_shown (form.Of m) = forms.member (member_shown m)
form_shown form.Argument = forms.argument

abbrev pub action_shown : Action → forms.Action
action_shown (action.Computes f) = forms.computes (form_shown f)
action_shown action.LogsParts = forms.logs_parts
