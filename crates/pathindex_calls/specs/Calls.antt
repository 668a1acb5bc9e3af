-- What a call does to what is held.
use Rattle.std.specs.Prelude.{ℕ, ◌≡◌, ◌-◌, ◌++◌, List, [], ◌∷◌, Option, Some, None, take, drop, length, min, nat_eq, if◌then◌else◌}
use Rattle.change_spec.specs.Steps.{Step, node, link, unlink, relabel}
use Rattle.change_spec.specs.Steps as step
use Rattle.label_graph.specs.GraphViews.{live_count, edge_count}
use Rattle.pathindex_session.specs.declared.opening.Indexes.{Indexes}
use Rattle.pathindex_session.specs.declared.errors.OpenError.{OpenError}
use Rattle.pathindex_session.specs.Sessions.{SessionOf, graph_of, names_of}
use Rattle.pathindex_session.specs.Openings.{OpensText, TellsLine}
use Rattle.pathindex_session.specs.TextAnswers.{SpellsPathQuery, SpellsBranchQuery}
use Rattle.pathindex_calls.specs.declared.held.Held.{Held}
use Rattle.pathindex_calls.specs.declared.replies.Reply.{Reply}
use Rattle.pathindex_calls.specs.declared.requests.Call.{Call}
use Rattle.pathindex_calls.specs.declared.requests.Call.TheVariants.{Node, Link, Unlink, Drop, Relabel, Begin, End, Cancel, Insert, Delete, Path, Branch, Why, Extents, Sizes, Save, Forget}
use Rattle.pathindex_calls.specs.declared.requests.Request.{Request}
use Rattle.pathindex_calls.specs.declared.requests.Request.TheVariants.{Open, Ask}
use Rattle.pathindex_calls.specs.Requests.{request_at}
use Rattle.pathindex_calls.specs.Replies.{said, of_open, misused}
use Rattle.pathindex_calls.specs.Changes.{Inserts, Deletes, ReadsTriple, Steps, Labels, Begins, Ends, Cancels}
use Rattle.pathindex_calls.specs.Questions.{Asks, Explains, Checks, Lists, Measures, Saves, Forgets}

-- A call was carried out, with this text, on a session and the group of steps that is begun.
abbrev pub ObeysCall : Call → List ℕ → SessionOf → Option (List Step) → SessionOf → Option (List Step) → Reply → Type 0
ObeysCall Node text s g t h reply = Labels (λ label. node label) text s g t h reply
ObeysCall (Link u v) text s g t h reply = Steps (link u v) s g t h reply
ObeysCall (Unlink u v) text s g t h reply = Steps (unlink u v) s g t h reply
ObeysCall (Drop u) text s g t h reply = Steps (step.drop u) s g t h reply
ObeysCall (Relabel u) text s g t h reply = Labels (λ label. relabel u label) text s g t h reply
ObeysCall Begin text s g t h reply = (t ≡ s) × Begins g h reply
ObeysCall End text s g t h reply = Ends s g t h reply
ObeysCall Cancel text s g t h reply = (t ≡ s) × Cancels g h reply
ObeysCall Insert text s g t h reply = (h ≡ g) × ReadsTriple (λ x. Inserts x) text s t reply
ObeysCall Delete text s g t h reply = (h ≡ g) × ReadsTriple (λ x. Deletes x) text s t reply
ObeysCall (Path via) text s g t h reply = (h ≡ g) × Asks (SpellsPathQuery text) text via s t reply
ObeysCall (Branch via) text s g t h reply = (h ≡ g) × Asks (SpellsBranchQuery text) text via s t reply
ObeysCall (Why u) text s g t h reply = (h ≡ g) × Explains text u s t reply
ObeysCall (Extents via) text s g t h reply = (h ≡ g) × Lists via s t reply
ObeysCall Sizes text s g t h reply = (h ≡ g) × Measures s t reply
ObeysCall Save text s g t h reply = (h ≡ g) × Saves s t reply
ObeysCall (Forget kind) text s g t h reply = (h ≡ g) × Forgets kind s t reply

-- A session was opened with the graph of the text, or a line of it is refused, or memory ran out.
abbrev pub Opens : Indexes → List ℕ → Option SessionOf → Reply → Type 0
Opens kept text (Some s) reply =
    OpensText text kept s.engine (names_of s) × (s.nodes ≡ []) × (s.walk ≡ []) × (s.text ≡ []) × (reply ≡ said 0)
Opens kept text None reply = (error : OpenError) × TellsLine text error × (reply ≡ of_open error)

-- what a call starts from or leaves: perhaps a session, perhaps the steps of a group that is begun
pub record Kept : Type 0 where
  -- the session, none where none is open
  pub session : Option SessionOf
  -- the steps of the group that is begun, none where none is
  pub group : Option (List Step)

-- the session and the group that are held
abbrev pub kept_by : Held → Kept
kept_by h = record { session = h.session; group = h.group }

-- Something was asked of the session, if one is open.
abbrev pub AsksSession : Option SessionOf → Call → List ℕ → Option (List Step) → Kept → Reply → Type 0
AsksSession None call text g k reply = (k ≡ record { session = None; group = g }) × (reply ≡ misused)
AsksSession (Some s) call text g k reply = (t : SessionOf) × (k.session ≡ Some t) × ObeysCall call text s g t k.group reply

-- A call that asks for nothing changes nothing.
abbrev pub Calls : Option Request → List ℕ → Kept → Kept → Reply → Type 0
Calls None text j k reply = (k ≡ j) × (reply ≡ misused)
Calls (Some (Open kept)) text j k reply = (k.group ≡ None) × Opens kept text k.session reply
Calls (Some (Ask call)) text j k reply = AsksSession j.session call text j.group k reply

-- What a call does, by its number, the two numbers and the text that come with it; and it says the code of its reply.
pub record IsCalled (call a b : ℕ) (text : List ℕ) (h i : Held) (code : ℕ) : Type 0 where
  -- the call has its effect on the session, and this reply
  pub calls : Calls (request_at call a b) text (kept_by h) (kept_by i) i.reply
  -- the code is that of the reply
  pub code_is : code ≡ i.reply.code

-- A walk was checked, if a session is open.
abbrev pub ChecksSession : Option SessionOf → List ℕ → ℕ → List ℕ → Reply → Type 0
ChecksSession None text v walk reply = reply ≡ misused
ChecksSession (Some s) text v walk reply = Checks text v walk s reply

-- What the call does that checks a walk; all but the reply stays.
pub record IsChecked (v : ℕ) (walk text : List ℕ) (h i : Held) (code : ℕ) : Type 0 where
  -- the reply says whether the walk shows why the node answers
  pub checks : ChecksSession h.session text v walk i.reply
  -- what is held stays
  pub kept : kept_by i ≡ kept_by h
  -- the code is that of the reply
  pub code_is : code ≡ i.reply.code

-- how many nodes the graph has; 0, where no session is open
abbrev pub nodes_in : Option SessionOf → ℕ
nodes_in None = 0
nodes_in (Some s) = live_count (graph_of s)

-- how many edges the graph has; 0, where no session is open
abbrev pub edges_in : Option SessionOf → ℕ
edges_in None = 0
edges_in (Some s) = edge_count (graph_of s)

-- the number that the graph's next node gets; 0, where no session is open
abbrev pub next_in : Option SessionOf → ℕ
next_in None = 0
next_in (Some s) = length (graph_of s).allocated

-- what is reported of the last call and of the graph
abbrev pub reported : Held → ℕ → ℕ
reported h which =
    if nat_eq which 0 then h.reply.how
    else if nat_eq which 1 then h.reply.count
    else if nat_eq which 2 then h.reply.number
    else if nat_eq which 3 then nodes_in h.session
    else if nat_eq which 4 then edges_in h.session
    else if nat_eq which 5 then next_in h.session
    else 0

-- That is reported, and all stays.
pub record IsReported (which : ℕ) (h i : Held) (number : ℕ) : Type 0 where
  -- the number is the one that was asked for
  pub reported_is : number ≡ reported h which
  -- all that is held stays
  pub same : i ≡ h

-- nothing is held: no session is open
pub record IsEmpty (h : Held) : Type 0 where
  -- no session is open
  pub session : h.session ≡ None
  -- no group is begun
  pub group : h.group ≡ None
  -- the reply has the code 0
  pub reply : h.reply ≡ said 0

-- the nodes found last; none, where no session is open
abbrev pub found_nodes : Option SessionOf → List ℕ
found_nodes None = []
found_nodes (Some s) = s.nodes

-- the walk found last; empty, where no session is open
abbrev pub found_walk : Option SessionOf → List ℕ
found_walk None = []
found_walk (Some s) = s.walk

-- the text made last; empty, where no session is open
abbrev pub found_text : Option SessionOf → List ℕ
found_text None = []
found_text (Some s) = s.text

-- a part of the list, from the place `first` on, lies at the front of the new list, as much as fits, and what lies
-- behind it stays
pub record IsCopied {X : Type 0} (list : List X) (first : ℕ) (old new : List X) (count : ℕ) : Type 0 where
  -- as much is copied as is left from that place on, or as fits
  pub count_is : count ≡ min (length list - first) (length old)
  -- this part lies at the front, and what lies behind it stays
  pub new_is : new ≡ take count (drop first list) ++ drop count old

-- What was found last is copied so, and all stays.
pub record CopiesFound (found : Option SessionOf → List ℕ) (first : ℕ) (h i : Held) (old new : List ℕ) (count : ℕ) : Type 0 where
  -- the part from `first` on stands in the slice, as far as it fits
  pub copied : IsCopied (found h.session) first old new count
  -- what is held stays
  pub same : i ≡ h
