use Rattle.std.proofs.Common.{◌∙◌, sym, refl}
use Rattle.lam_print.proofs.Fields.{no_fields, some_fields}
use Rattle.lam_print.proofs.items.put_class_body.Goals as goal

pub returns-then-is_empty : goal.returns-then-is_empty
returns-then-is_empty c = no_fields c.args.fields.now _ _ _ c.put.result (sym c.is_empty.ensures ∙ c.if-is_empty.true) refl c.put.ensures

pub returns : goal.returns
returns c = some_fields c.args.fields.now _ _ _ _ c.put-2.result (sym c.is_empty.ensures ∙ c.if-is_empty.false) refl c.in_ok-put_fields.ensures c.put-2.ensures
