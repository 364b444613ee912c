-- What names stand for in modules and frames, and how that changes.
use Rattle.std.specs.Prelude.{ℕ, length, ◌==◌, ◌&&◌, ◌||◌, nat_lt, Bool, false, List, [], ◌∷◌, ◌++◌, Option, Some, None, is_some, drop, if◌then◌else◌}
use Rattle.std.specs.Option.{option_or, unwrap_or}
use Rattle.std.specs.Str.{bytes_eq}
use Rattle.std.specs.FinMap as map
use Rattle.jam_journal.specs.Tables.{Text, Table}

-- a value is a list of texts
abbrev pub Value : Type 0
Value = List Text

-- a name with the value that a frame binds to it
abbrev pub Binding : Type 0
Binding = Text × Value

-- a frame belongs to one module, and so do its bindings, the newest first; the frame of a call keeps the module at the call
pub record Frame : Type 0 where
  pub owner : Text
  pub caller : Option Text
  pub bindings : List Binding

-- the frames, the innermost first, and the modules' variables, by module and name
pub record Scopes : Type 0 where
  pub frames : List Frame
  pub variables : Table Value

-- the names of argument lists: `<`, `>`, and `1` to `9`
abbrev pub is_special : Text → Bool
is_special [] = false
is_special (byte ∷ []) = byte == 60 || byte == 62 || (nat_lt 48 byte && nat_lt byte 58)
is_special (byte ∷ more ∷ bytes) = false

-- the newest frame's module, or the global one, whose name is empty
abbrev pub module_of : List Frame → Text
module_of [] = []
module_of (frame ∷ frames) = frame.owner

-- the newest value that some bindings give a name
abbrev pub bound_by : List Binding → Text → Option Value
bound_by [] name = None
bound_by (b ∷ bs) name = if bytes_eq b.0 name then Some b.1 else bound_by bs name

-- what the innermost frame that binds a name gives it, among the frames of the modules that count
abbrev pub bound_in : (Text → Bool) → List Frame → Text → Option Value
bound_in counts [] name = None
bound_in counts (frame ∷ frames) name =
    option_or (if counts frame.owner then bound_by frame.bindings name else None) (bound_in counts frames name)

abbrev pub is_in : Text → Text → Bool
is_in owner other = bytes_eq other owner

-- looking up from a module: the innermost frame of this module that binds the name, and for an argument list the innermost
-- frame of any module; else the module's variable; else the empty list
abbrev pub look_in : Text → Scopes → Text → Value
look_in owner s name =
    unwrap_or (option_or (bound_in (λ other. is_special name || is_in owner other) s.frames name) (map.get s.variables (owner, name))) []

abbrev pub look : Scopes → Text → Value
look s name = look_in (module_of s.frames) s name

-- the newest binding of a name among some bindings takes a value
abbrev pub rebound : List Binding → Text → Value → List Binding
rebound [] name value = []
rebound (b ∷ bs) name value = if bytes_eq b.0 name then (b.0, value) ∷ bs else b ∷ rebound bs name value

-- the innermost frame of a module that binds a name takes a value for it
abbrev pub rebound_in : Text → List Frame → Text → Value → List Frame
rebound_in owner [] name value = []
rebound_in owner (frame ∷ frames) name value =
    if is_in owner frame.owner && is_some (bound_by frame.bindings name)
    then record frame { bindings = rebound frame.bindings name value } ∷ frames
    else frame ∷ rebound_in owner frames name value

-- the value that an assignment in a module would replace, if there is one: what the innermost frame of the module that binds
-- the name gives it, else the module's variable
abbrev pub assigned_in : Text → Scopes → Text → Option Value
assigned_in owner s name = option_or (bound_in (is_in owner) s.frames name) (map.get s.variables (owner, name))

abbrev pub assigned : Scopes → Text → Option Value
assigned s name = assigned_in (module_of s.frames) s name

-- assigning in a module: its innermost frame that binds the name takes the value, else the module's variable; also for the
-- names of argument lists
abbrev pub assign_in : Text → Text → Value → Scopes → Scopes
assign_in owner name value s =
    if is_some (bound_in (is_in owner) s.frames name)
    then record s { frames = rebound_in owner s.frames name value }
    else record s { variables = map.insert s.variables (owner, name) value }

abbrev pub assign : Text → Value → Scopes → Scopes
assign name value s = assign_in (module_of s.frames) name value s

-- appending: what assigning would replace, followed by the texts, is assigned
abbrev pub append : Text → Value → Scopes → Scopes
append name texts s = assign name (unwrap_or (assigned s name) [] ++ texts) s

-- a frame of a module, without bindings, is the newest
abbrev pub enter : Text → Scopes → Scopes
enter owner s = record s { frames = record { owner = owner; caller = None; bindings = [] } ∷ s.frames }

-- the same for a call, which keeps the module that was the present one
abbrev pub enter_call : Text → Scopes → Scopes
enter_call owner s = record s { frames = record { owner = owner; caller = Some (module_of s.frames); bindings = [] } ∷ s.frames }

-- the newest frame goes, with its bindings; what was assigned elsewhere stays
abbrev pub leave : Scopes → Scopes
leave s = record s { frames = drop 1 s.frames }

abbrev pub with_binding : Binding → List Frame → List Frame
with_binding b [] = []
with_binding b (frame ∷ frames) = record frame { bindings = b ∷ frame.bindings } ∷ frames

-- binding: the newest frame has a further binding, which hides its older ones of that name; without a frame nothing changes
abbrev pub bind : Text → Value → Scopes → Scopes
bind name value s = record s { frames = with_binding (name, value) s.frames }

-- several names are bound in order
abbrev pub bind_each : List Binding → Scopes → Scopes
bind_each [] s = s
bind_each (b ∷ bs) s = bind_each bs (bind b.0 b.1 s)

-- the module that the innermost frame of a call keeps, or the empty text
abbrev pub caller_of : List Frame → Text
caller_of [] = []
caller_of (frame ∷ frames) = unwrap_or frame.caller (caller_of frames)

-- no frame and no variable
abbrev pub first_scopes : Scopes
first_scopes = record { frames = []; variables = map.empty }

-- how many frames there were at the newest mark; none where there is no mark
abbrev pub frames_at_mark : List Scopes → ℕ
frames_at_mark [] = 0
frames_at_mark (s ∷ more) = length s.frames
