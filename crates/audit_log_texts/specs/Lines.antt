-- The line of an event: who acts at which label, what is asked, and the answer. A line is words with one space between
-- each two. A private turn has no line.
--
-- t0 {}/{} enter {a}/{} caps +{}-{} region 0 (1) = refused AddS a
-- t0 {}/{} new array int 2 = arr<{}/{}|{}/{}|0>[2]
-- t0 {}/{} end Denied = done
use Rattle.std.specs.Prelude.{◌≡◌, ℕ, true, List, [], ◌∷◌, ◌++◌, codes, decimal, refl}
use Rattle.std.specs.Fmt.{signed_decimal}
use Rattle.flow_labels.specs.TwoLists.{Text, tag_text}
use Rattle.flow_labels.specs.LabelText.{label_text}
use Rattle.flow_labels.specs.RuleText.{rule_text}
use Rattle.flow_labels.specs.declared.Label.{Label}
use Rattle.flow_labels.specs.declared.Denied.{Denied}
use Rattle.flow_labels.specs.declared.Rule.TheVariants.{ReadS, AddS}
use Rattle.capabilities.specs.CapsText.{caps_text}
use Rattle.lam_value.specs.declared.names.Name.{Name}
use Rattle.lam_value.specs.declared.values.Value.{Value}
use Rattle.lam_value.specs.declared.values.Value.TheVariants as value
use Rattle.lam_value.specs.declared.shapes.Kind.{Kind}
use Rattle.lam_value.specs.declared.shapes.Kind.TheVariants.{Int, Bool, Null as no_thing}
use Rattle.lam_value.specs.declared.shapes.Shape.{Shape}
use Rattle.lam_value.specs.declared.shapes.Shape.TheVariants.{Class, Array}
use Rattle.lam_value.specs.Texts.{bytes_text, name_text, value_text, values_text}
use Rattle.lam_asks.specs.declared.fault.Fault.{Fault}
use Rattle.lam_asks.specs.declared.fault.Fault.TheVariants.{Denied as denied, Null, Index, Zero, Overflow, Deep, Long, Form, HomeFull, Exists, NoEntry, DirFull, BadName, Child, Thrown}
use Rattle.lam_asks.specs.declared.answer.Outcome.TheVariants as outcome
use Rattle.lam_asks.specs.declared.answer.Answer.{Answer}
use Rattle.lam_asks.specs.declared.answer.Answer.TheVariants.{Done, Entered, Val, Refused, Failed}
use Rattle.lam_asks.specs.declared.answer.What.TheVariants.{Private, Asked}
use Rattle.lam_asks.specs.declared.answer.What.{What}
use Rattle.lam_asks.specs.declared.answer.Event.{Event}
use Rattle.lam_asks.specs.declared.ask.Ask.{Ask}
use Rattle.lam_asks.specs.declared.ask.Ask.TheVariants.{Read, Write, New, CopyTo, Mint, Enter, Leave, Barred, Caught, Suppressed, MonEnter, MonLeave, MakeFile, MakeDir, OpenFile, OpenDir, Remove, FileRead, FileLength, Append, Cut, MakePipe, Send, SendCaps, Receive, ReceiveCaps, Spawn, Join, Say, End}

-- ---- words

-- words with a space between each two
abbrev pub spaced : List Text → Text
spaced [] = []
spaced (w ∷ []) = w
spaced (w ∷ v ∷ ws) = w ++ 32 ∷ spaced (v ∷ ws)

-- a line of such words
abbrev pub line : List Text → Text
line ws = spaced ws ++ 10 ∷ []

abbrev pub thread_text : ℕ → Text
thread_text t = 116 ∷ decimal t

-- values in round brackets, with a comma between each two
abbrev pub group_text : List Text → List Value → Text
group_text names vs = 40 ∷ (values_text names vs ++ 41 ∷ [])

-- the values that lead to a file, a directory and a pipe
abbrev pub file_text : List Text → Name → Text
file_text names n = name_text (codes "file") names n

abbrev pub dir_text : List Text → Name → Text
dir_text names n = name_text (codes "dir") names n

abbrev pub pipe_text : List Text → Name → Text
pipe_text names n = name_text (codes "pipe") names n

abbrev pub kind_text : Kind → Text
kind_text Int = codes "int"
kind_text Bool = codes "bool"
kind_text no_thing = codes "null"

-- a rule, and the tag by which it forbids
abbrev pub denied_text : List Text → Denied → Text
denied_text names d = spaced (rule_text d.rule ∷ tag_text names d.tag ∷ [])

-- ---- faults and answers

abbrev pub fault_name : Fault → Text
fault_name denied = codes "Denied"
fault_name Null = codes "Null"
fault_name Index = codes "Index"
fault_name Zero = codes "Zero"
fault_name Overflow = codes "Overflow"
fault_name Deep = codes "Deep"
fault_name Long = codes "Long"
fault_name Form = codes "Form"
fault_name HomeFull = codes "HomeFull"
fault_name Exists = codes "Exists"
fault_name NoEntry = codes "NoEntry"
fault_name DirFull = codes "DirFull"
fault_name BadName = codes "BadName"
fault_name Child = codes "Child"
fault_name (Thrown n) = codes "Thrown"

-- a thrown fault has its number after its name
abbrev pub thrown_text : Fault → Text
thrown_text (Thrown n) = 32 ∷ signed_decimal n
thrown_text f = []

abbrev pub fault_text : Fault → Text
fault_text f = fault_name f ++ thrown_text f

abbrev pub answer_words : List Text → Answer → List Text
answer_words names Done = codes "done" ∷ []
answer_words names Entered = codes "entered" ∷ []
answer_words names (Val v) = value_text names v ∷ []
answer_words names (Refused d) = codes "refused" ∷ denied_text names d ∷ []
answer_words names (Failed f) = codes "failed" ∷ fault_text f ∷ []

abbrev pub answer_text : List Text → Answer → Text
answer_text names a = spaced (answer_words names a)

-- ---- asks

abbrev pub new_words : Shape → List Text
new_words (Class class fields) = codes "new" ∷ codes "class" ∷ decimal class ∷ []
new_words (Array kind len) = codes "new" ∷ codes "array" ∷ kind_text kind ∷ decimal len ∷ []

abbrev pub new_text : Shape → Text
new_text shape = spaced (new_words shape)

abbrev pub ask_words : List Text → Ask → List Text
ask_words names (Read r at) = codes "read" ∷ value_text names r ∷ decimal at ∷ []
ask_words names (Write r at v) = codes "write" ∷ value_text names r ∷ decimal at ∷ value_text names v ∷ []
ask_words names (New shape) = new_words shape
ask_words names (CopyTo r own) = codes "copy" ∷ value_text names r ∷ codes "to" ∷ label_text names own ∷ []
ask_words names Mint = codes "mint" ∷ []
ask_words names (Enter label caps region args) =
    codes "enter" ∷ label_text names label ∷ codes "caps" ∷ caps_text names caps ∷ codes "region" ∷ decimal region ∷ group_text names args ∷ []
ask_words names Leave = codes "leave" ∷ []
ask_words names (Barred d) = codes "barred" ∷ denied_text names d ∷ []
ask_words names (Caught f) = codes "caught" ∷ fault_text f ∷ []
ask_words names (Suppressed f) = codes "suppressed" ∷ fault_text f ∷ []
ask_words names (MonEnter r) = codes "lock" ∷ value_text names r ∷ []
ask_words names (MonLeave r) = codes "unlock" ∷ value_text names r ∷ []
ask_words names (MakeFile dir entry own) = codes "make_file" ∷ dir_text names dir ∷ bytes_text entry ∷ label_text names own ∷ []
ask_words names (MakeDir dir entry own) = codes "make_dir" ∷ dir_text names dir ∷ bytes_text entry ∷ label_text names own ∷ []
ask_words names (OpenFile dir entry) = codes "open_file" ∷ dir_text names dir ∷ bytes_text entry ∷ []
ask_words names (OpenDir dir entry) = codes "open_dir" ∷ dir_text names dir ∷ bytes_text entry ∷ []
ask_words names (Remove dir entry) = codes "remove" ∷ dir_text names dir ∷ bytes_text entry ∷ []
ask_words names (FileRead file at n) = codes "read_file" ∷ file_text names file ∷ decimal at ∷ decimal n ∷ []
ask_words names (FileLength file) = codes "length" ∷ file_text names file ∷ []
ask_words names (Append file bytes) = codes "append" ∷ file_text names file ∷ bytes_text bytes ∷ []
ask_words names (Cut file len) = codes "cut" ∷ file_text names file ∷ decimal len ∷ []
ask_words names (MakePipe own) = codes "make_pipe" ∷ label_text names own ∷ []
ask_words names (Send pipe bytes) = codes "send" ∷ pipe_text names pipe ∷ bytes_text bytes ∷ []
ask_words names (SendCaps pipe caps) = codes "send_caps" ∷ pipe_text names pipe ∷ caps_text names caps ∷ []
ask_words names (Receive pipe) = codes "receive" ∷ pipe_text names pipe ∷ []
ask_words names (ReceiveCaps pipe) = codes "receive_caps" ∷ pipe_text names pipe ∷ []
ask_words names (Spawn unit args caps) = codes "spawn" ∷ decimal unit ∷ group_text names args ∷ codes "caps" ∷ caps_text names caps ∷ []
ask_words names (Join thread) = codes "join" ∷ thread_text thread ∷ []
ask_words names (Say bytes) = codes "say" ∷ bytes_text bytes ∷ []
ask_words names (End (outcome.Value v)) = codes "end" ∷ codes "value" ∷ value_text names v ∷ []
ask_words names (End (outcome.Failed f)) = codes "end" ∷ fault_text f ∷ []

abbrev pub ask_text : List Text → Ask → Text
ask_text names a = spaced (ask_words names a)

-- ---- events

-- who acts at which label
abbrev pub head_text : List Text → ℕ → Label → Text
head_text names thread label = spaced (thread_text thread ∷ label_text names label ∷ [])

abbrev pub line_after : List Text → Text → What → Text
line_after names head Private = []
line_after names head (Asked ask answer) = line (head ∷ ask_text names ask ∷ codes "=" ∷ answer_text names answer ∷ [])

abbrev pub event_line : List Text → Event → Text
event_line names e = line_after names (head_text names e.thread e.label) e.what

-- ---- worked examples: asks and answers without a number and without a label, with the name a of tag 0

a_name : List Text
a_name = codes "a" ∷ []

mints : ask_text [] Mint ≡ codes "mint"
mints = refl

leaves : ask_text [] Leave ≡ codes "leave"
leaves = refl

is_barred : ask_text a_name (Barred (record { rule = ReadS; tag = 0 })) ≡ codes "barred ReadS a"
unfolding a_name
is_barred = refl

catches : ask_text [] (Caught Zero) ≡ codes "caught Zero"
catches = refl

suppresses : ask_text [] (Suppressed NoEntry) ≡ codes "suppressed NoEntry"
suppresses = refl

says : ask_text [] (Say (codes "hi")) ≡ codes "say \"hi\""
says = refl

ends_with_value : ask_text [] (End (outcome.Value (value.Bool true))) ≡ codes "end value true"
ends_with_value = refl

ends_with_fault : ask_text [] (End (outcome.Failed denied)) ≡ codes "end Denied"
ends_with_fault = refl

is_done : answer_text [] Done ≡ codes "done"
is_done = refl

is_entered : answer_text [] Entered ≡ codes "entered"
is_entered = refl

is_null : answer_text [] (Val value.Nothing) ≡ codes "null"
is_null = refl

is_refused : answer_text a_name (Refused (record { rule = AddS; tag = 0 })) ≡ codes "refused AddS a"
unfolding a_name
is_refused = refl

is_failed : answer_text [] (Failed NoEntry) ≡ codes "failed NoEntry"
is_failed = refl

-- the lines of two events whose thread and label are printed already, and of a private turn
barred_line : line_after a_name (codes "t0 {}/{}") (Asked (Barred (record { rule = ReadS; tag = 0 })) Done) ≡ codes "t0 {}/{} barred ReadS a = done\n"
unfolding a_name
barred_line = refl

end_line : line_after [] (codes "t0 {}/{}") (Asked (End (outcome.Failed denied)) Done) ≡ codes "t0 {}/{} end Denied = done\n"
end_line = refl

private_line : line_after [] (codes "t0 {}/{}") Private ≡ []
private_line = refl
