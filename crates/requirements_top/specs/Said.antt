-- What the private calls on words give. No public contract cites this file.
use Rattle.std.specs.Prelude.{◌≤◌, Bool, ◌&&◌, not, codes, is_some, option_map, ⊤}
use Rattle.clap.specs.Words.{first_value}
use Rattle.clap.specs.declared.parser.matches.Found.{Found}
use Rattle.requirements_top.specs.declared.words.Said.{Said}
use Rattle.requirements_top.specs.declared.words.Asked.{Asked}
use Rattle.requirements_top.specs.declared.words.Asked.TheVariants as asked
use Rattle.requirements_top.specs.declared.words.Face.{Face}
use Rattle.requirements_top.specs.declared.words.Face.TheVariants as faces
use Rattle.requirements_top.specs.declared.words.Query.{Query}
use Rattle.requirements_top.specs.declared.words.Query.TheVariants as queries
use Rattle.requirements_top.specs.declared.words.Request.{Request}
use Rattle.requirements_top.specs.declared.words.Work.{Work}
use Rattle.requirements_top.specs.Words as words
use Rattle.requirements_top.specs.Words.{Wanted, Help, Of, is_true}

-- what is said, apart from how it is stored
abbrev pub said_of : Said → words.Said
said_of s = record {
  help = s.help;
  letters = s.letters;
  json = s.json;
  html = s.html;
  progress = s.progress;
  only = option_map (λ t. t.now) s.only;
  cert = option_map (λ t. t.now) s.cert;
  steps = option_map (λ t. t.now) s.steps;
  workers = option_map (λ t. t.now) s.workers;
}

-- what matches of `clap` say
abbrev pub said_in_matches : Found → words.Said
said_in_matches m = record {
  help = is_true (first_value m (codes "help"));
  letters = is_true (first_value m (codes "letters"));
  json = is_true (first_value m (codes "json"));
  html = is_true (first_value m (codes "html"));
  progress = is_true (first_value m (codes "progress"));
  only = first_value m (codes "only");
  cert = first_value m (codes "cert");
  steps = first_value m (codes "steps");
  workers = first_value m (codes "workers");
}

-- and what is asked for
abbrev pub face_of : Face → words.Face
face_of faces.Text = words.Text
face_of faces.Json = words.Json
face_of faces.Page = words.Page

abbrev pub work_of : Work → words.Work
work_of w = record { steps = w.effort.limits.steps; workers = w.effort.workers; progress = w.progress }

abbrev pub request_of : Request → words.Request
request_of r = record { face = face_of r.face; only = option_map (λ t. t.now) r.only; work = work_of r.work }

abbrev pub query_of : Query → words.Query
query_of queries.Letters = words.Letters
query_of (queries.About request) = words.About (request_of request)
query_of (queries.Certificate name work) = words.Certificate name.now (work_of work)

abbrev pub wanted_of : Asked → Wanted
wanted_of asked.Help = Help
wanted_of (asked.Of query) = Of (query_of query)

-- nothing is said of a report, nor of a certificate
abbrev pub is_formless : words.Said → Bool
is_formless said = not said.json && (not said.html && not (is_some said.only))

abbrev pub is_workless : words.Said → Bool
is_workless said = not said.progress && (not (is_some said.steps) && not (is_some said.workers))

abbrev pub is_bare : words.Said → Bool
is_bare said = is_formless said && (is_workless said && not (is_some said.cert))

-- the number of workers is allowed
pub record AreFew (work : Work) : Type 0 where
  pub some : 1 ≤ work.effort.workers
  pub few : work.effort.workers ≤ 16

-- so it is with what is asked of a document
abbrev pub IsFit : Query → Type 0
IsFit queries.Letters = ⊤
IsFit (queries.About request) = AreFew request.work
IsFit (queries.Certificate name work) = AreFew work
