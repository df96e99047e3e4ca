use Rattle.asn_meaning.proofs.AlikePlain.{plain_kept}
use Rattle.asn_meaning.proofs.laws.tags_keep_plain_form.Goals as goal

pub returns : goal.returns
returns c = plain_kept
