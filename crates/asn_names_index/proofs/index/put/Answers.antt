use Rattle.std.proofs.Common.{string_bytes}
use Rattle.std.proofs.lemmas.Map.Text.{btree_map_updates_text}
use Rattle.asn_names_index.proofs.index.put.Goals as goal

pub returns : goal.returns
returns c = λ q. rw (c.in_ok-key.ensures.ok, c.as_str.ensures) at (btree_map_updates_text (string_bytes c.in_ok-key.key) c.args.index.now c.insert.new.self _ c.in_ok-insert.ensures.updates q)
