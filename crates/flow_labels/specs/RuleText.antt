-- The names by which texts call the rules.
use Rattle.std.specs.Prelude.{codes}
use Rattle.flow_labels.specs.TwoLists.{Text}
use Rattle.flow_labels.specs.declared.Rule.{Rule}
use Rattle.flow_labels.specs.declared.Rule.TheVariants.{ReadS, ReadI, WriteS, WriteI, AddS, DropS, AddI, DropI, Caps, Mint, Same}

abbrev pub rule_text : Rule → Text
rule_text ReadS = codes "ReadS"
rule_text ReadI = codes "ReadI"
rule_text WriteS = codes "WriteS"
rule_text WriteI = codes "WriteI"
rule_text AddS = codes "AddS"
rule_text DropS = codes "DropS"
rule_text AddI = codes "AddI"
rule_text DropI = codes "DropI"
rule_text Caps = codes "Caps"
rule_text Mint = codes "Mint"
rule_text Same = codes "Same"
