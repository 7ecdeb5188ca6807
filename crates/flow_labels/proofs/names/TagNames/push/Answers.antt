use Rattle.std.proofs.Common.{◌≡◌, ap, ◌∙◌, sym, refl, string_bytes, map, ◌++◌, ◌∷◌, []}
use Rattle.flow_labels.proofs.NameLemmas.{texts_push, kept_push, kept_same}
use Rattle.flow_labels.proofs.names.TagNames.push.Goals as goal
use Rattle.flow_labels.proofs.names.TagNames.push.Goals.{In-Ok}

grown : (c : In-Ok) → map string_bytes c.push.new.self.items ≡ c.args.self.now ++ c.args.name.now ∷ []
grown c = texts_push string_bytes _ _ _ _ _ (ap (map string_bytes) c.reserve.ensures.items ∙ c.self.view_is) c.in_ok-text.ensures.ok c.in-Ok.ensures.items

pub invariant_of-self-2 : goal.invariant_of-self-2
invariant_of-self-2 c = kept_push c.self.inside.tags c.put_tag.new.tags c.args.self.now _ c.args.name.now c.count.result (kept_same c.self.inside.tags c.self.inside.tags _ _ c.self.invariant refl (sym c.self.view_is)) c.requires.named c.requires.new c.count.ensures (grown c) c.in_ok-put_tag.ensures.ok

pub returns-clause-ok : goal.returns-clause-ok
returns-clause-ok c = grown c

pub invariant_of-self-in_err-put_tag : goal.invariant_of-self-in_err-put_tag
invariant_of-self-in_err-put_tag c = kept_same c.self.inside.tags c.put_tag.new.tags _ _ c.self.invariant c.in_err-put_tag.ensures.err (ap (map string_bytes) c.reserve.ensures.items)
