-- Texts of two small documents that were written by hand.
use Rattle.std.specs.Prelude.{◌≡◌, ℕ, zero, suc, List, [], ◌∷◌, ◌++◌, codes, true, false, Option, Some, None}
use Rattle.ltl_syntax.specs.declared.node.Kind.TheVariants as Kinds
use Rattle.ltl_syntax.specs.declared.node.UnaryOp.TheVariants.{Always, Eventually, Not}
use Rattle.ltl_syntax.specs.declared.node.BinaryOp.TheVariants.{Implies}
use Rattle.ltl_syntax.specs.Formula.{Formula, Name, Letter, Unary, Binary}
use Rattle.ltl_word.specs.declared.trace.Trace.TheVariants.{Infinite, Finite}
use Rattle.requirement_document.specs.declared.document.Role.TheVariants as roles
use Rattle.requirement_document.specs.Values.{ItemValue, DocumentValue}
use Rattle.requirement_questions.specs.declared.members.Member.{Member}
use Rattle.requirement_questions.specs.declared.answering.QuestionAnswer.TheVariants.{Can, Undecided, TooLarge}
use Rattle.requirement_answers.specs.declared.asking.Asking.TheVariants.{Together, Triggered, New, Possible, Follows}
use Rattle.requirement_answers.specs.declared.judging.ReportVerdict.TheVariants.{NotAsWished}
use Rattle.requirement_json.specs.Because.{with_because}
use Rattle.requirement_json.specs.Answers.{said, answer_data}
use Rattle.requirement_json.specs.Checks.{checked_data}
use Rattle.requirement_json.specs.Whole.{whole_data, line_of}
use Rattle.serde_json.specs.Data.{Data, object}

-- ---- a pump that is to run, with a behaviour that breaks what is given

abbrev pub w : Formula
w = Letter (Name (codes "w"))

abbrev pub p : Formula
p = Letter (Name (codes "p"))

abbrev pub dry : ItemValue
dry = record { role = roles.Assume; name = codes "dry"; sentence = None; text = codes "!w"; formula = Unary Not w }

abbrev pub pump_out : ItemValue
pump_out = record {
  role = roles.Require;
  name = codes "pump out";
  sentence = Some (codes "The pump runs\nif there is \"w\".");
  text = codes "G (w -> p)";
  formula = Unary Always (Binary Implies w p);
}

abbrev pub still : ItemValue
still = record { role = roles.Ensure; name = codes "still"; sentence = None; text = codes "G !p"; formula = Unary Always (Unary Not p) }

abbrev pub pump : DocumentValue
pump = record {
  kind = Kinds.Infinite;
  items = dry ∷ pump_out ∷ still ∷ [];
  behaviours = record { name = codes "log"; sentence = None; trace = Finite ((codes "w" ∷ []) ∷ [] ∷ []) } ∷ [];
}

abbrev pub pump_answers : List Data
pump_answers =
    answer_data pump 5 Together (Can (Infinite [] ([] ∷ [])))
    ∷ answer_data pump 5 (Triggered 1) (Can (Infinite ([] ∷ []) ((codes "p" ∷ codes "w" ∷ []) ∷ [])))
    ∷ answer_data pump 5 (New 1) Undecided
    ∷ answer_data pump 5 (Follows 2) (Can (Infinite [] ((codes "p" ∷ []) ∷ [])))
    ∷ checked_data pump 0 (record { item = 0; position = 0 } ∷ record { item = 1; position = 0 } ∷ [])
    ∷ []

-- ---- a door that is to be shut and to open, with a letter that is written in two ways, and what matters of one of two members

abbrev pub door : Formula
door = Letter (Name (codes "door"))

abbrev pub shut : ItemValue
shut = record { role = roles.Require; name = codes "shut"; sentence = None; text = codes "G door"; formula = Unary Always door }

abbrev pub opens : ItemValue
opens = record { role = roles.Require; name = codes "open"; sentence = None; text = codes "F !door"; formula = Unary Eventually (Unary Not door) }

abbrev pub hot : ItemValue
hot = record { role = roles.Allow; name = codes "hot"; sentence = None; text = codes "F Door"; formula = Unary Eventually (Letter (Name (codes "Door"))) }

abbrev pub doors : DocumentValue
doors = record { kind = Kinds.Finite; items = shut ∷ opens ∷ hot ∷ []; behaviours = [] }

abbrev pub both : List Member
both = record { given = 0; needed = true } ∷ record { given = 1; needed = false } ∷ []

abbrev pub parts : ℕ → Option (List ℕ)
parts zero = Some (codes "G door")
parts (suc k) = None

abbrev pub door_answers : List Data
door_answers =
    object (with_because doors parts both (codes "never wX F !door\nnever G door & !door\n") (said (codes "conflict") (codes "consistent")))
    ∷ answer_data doors 5 Together Undecided
    ∷ answer_data doors 5 (Possible 2) (TooLarge 16390)
    ∷ []

pub record WorkedTexts : Type 0 where
  pub breaks : line_of (whole_data pump pump_answers [] NotAsWished)
      ≡ codes "{\"answers\":[{\"answer\":\"consistent\",\"question\":\"consistent\",\"trace\":{\"kind\":\"infinite\",\"loop\":[[]],"
      ++ (codes "\"stem\":[]}},{\"answer\":\"triggered\",\"name\":\"pump out\",\"question\":\"triggered\","
      ++ (codes "\"trace\":{\"kind\":\"infinite\",\"loop\":[[\"p\",\"w\"]],\"stem\":[[]]}},{\"answer\":\"undecided\","
      ++ (codes "\"name\":\"pump out\",\"question\":\"new\",\"steps\":5},{\"answer\":\"fails\",\"name\":\"still\","
      ++ (codes "\"question\":\"follows\",\"trace\":{\"kind\":\"infinite\",\"loop\":[[\"p\"]],\"stem\":[]}},{\"answer\":\"breaks\","
      ++ (codes "\"breaks\":[{\"name\":\"dry\",\"position\":0},{\"asked\":\"w\",\"name\":\"pump out\",\"position\":0,"
      ++ (codes "\"unanswered\":\"p\"}],\"name\":\"log\",\"question\":\"keeps\",\"trace\":{\"kind\":\"finite\",\"states\":[[\"w\"],"
      ++ (codes "[]]}}],\"aside\":[],\"items\":[{\"formula\":\"!w\",\"name\":\"dry\",\"role\":\"assume\",\"text\":null},"
      ++ (codes "{\"formula\":\"G (w -> p)\",\"name\":\"pump out\",\"role\":\"require\","
      ++ (codes "\"text\":\"The pump runs\\nif there is \\\"w\\\".\"},{\"formula\":\"G !p\",\"name\":\"still\",\"role\":\"ensure\","
      ++ (codes "\"text\":null}],\"letters\":[{\"items\":[\"pump out\",\"still\"],\"letter\":\"p\"},{\"items\":[\"dry\",\"pump out\"],"
      ++ codes "\"letter\":\"w\"}],\"slips\":[],\"traces\":\"infinite\",\"verdict\":\"not as wished\"}\n"))))))))))
  pub conflict : line_of (whole_data doors door_answers both NotAsWished)
      ≡ codes "{\"answers\":[{\"answer\":\"conflict\",\"because\":[{\"matters\":\"G door\",\"name\":\"shut\",\"needed\":true},{\"name\":\"open\","
      ++ (codes "\"needed\":false}],\"claims\":[\"wX F !door\",\"G door & !door\"],\"question\":\"consistent\"},"
      ++ (codes "{\"answer\":\"undecided\",\"question\":\"consistent\",\"steps\":5},{\"answer\":\"undecided\",\"name\":\"hot\","
      ++ (codes "\"nodes\":16390,\"question\":\"possible\"}],\"aside\":[\"shut\",\"open\"],\"items\":[{\"formula\":\"G door\","
      ++ (codes "\"name\":\"shut\",\"role\":\"require\",\"text\":null},{\"formula\":\"F !door\",\"name\":\"open\",\"role\":\"require\","
      ++ (codes "\"text\":null},{\"formula\":\"F Door\",\"name\":\"hot\",\"role\":\"allow\",\"text\":null}],"
      ++ (codes "\"letters\":[{\"items\":[\"hot\"],\"letter\":\"Door\"},{\"items\":[\"shut\",\"open\"],\"letter\":\"door\"}],"
      ++ (codes "\"slips\":[{\"items\":[\"hot\"],\"letter\":\"Door\",\"nearly\":[\"door\"]}],\"traces\":\"finite\","
      ++ codes "\"verdict\":\"not as wished\"}\n")))))))
