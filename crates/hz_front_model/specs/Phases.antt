-- Phases of an answer: reading files, forms and traces. The first that refuses decides. This profile, docs/FORMATS.md, 'Answers'.
use Rattle.std.specs.Prelude.{◌≡◌, ℕ, List, [], ◌∷◌, MatchOption, MatchBool, nat_lt, length, ◌⊎◌}
use Rattle.hz_base_model.specs.Forms.Forms.{form_word}
use Rattle.hz_base_model.specs.Forms.Forms as forms
use Rattle.hz_base_model.specs.Forms.Trees.{Trees}
use Rattle.hz_base_model.specs.Names.{Held}
use Rattle.hz_pipeline_model.specs.Accepting.Events.{Event}
use Rattle.hz_pipeline_model.specs.Traces.TraceNames.{TraceNames}
use Rattle.hz_pipeline_model.specs.Traces.Traces.{Trace, TraceFaultAt, trace_word}
use Rattle.hz_front_model.specs.Texts.{file_line, limit_line, fault_line}

-- the status and the text
abbrev pub Says : ℕ → List ℕ → ℕ → List ℕ → Type 0
Says s t status text = (status ≡ s) × (text ≡ t)

-- what a later phase answers, by its value
abbrev pub Next : Type 0 → Type 1
Next A = A → ℕ → List ℕ → Type 0

-- Reading a file of at most so many bytes: where the name is not held it can't be read, and a longer one is refused.
abbrev pub Opens : Held → List ℕ → ℕ → Next (List ℕ) → ℕ → List ℕ → Type 0
Opens held name most next status text =
    MatchOption (held name) (Says 6 (file_line name) status text)
    (λ bytes. MatchBool (nat_lt most (length bytes)) (Says 3 (limit_line name) status text) (next bytes status text))

-- a file that is read: its name, and how many bytes it has at most
pub record FileWord : Type 0 where
  pub name : List ℕ
  pub most : ℕ

-- All files are read, in their order, before anything is judged; what follows has their bytes in this order.
abbrev pub OpensAll : Held → List FileWord → Next (List (List ℕ)) → ℕ → List ℕ → Type 0
OpensAll held [] next = next []
OpensAll held (file ∷ files) next = Opens held file.name file.most (λ bytes. OpensAll held files (λ others. next (bytes ∷ others)))

-- a fault of a text is reported, by its word and its line: one for which `wrong` holds
abbrev pub TellsFault : {F : Type 0} → (word : F → List ℕ) → (wrong : F → ℕ → Type 0) → (name : List ℕ) → ℕ → List ℕ → Type 0
TellsFault {F} word wrong name status text = (fault : F) × (line : ℕ) × wrong fault line × Says 2 (fault_line name line (word fault ∷ [])) status text

-- the forms of a text, or its first fault
abbrev pub HasForms : List ℕ → List ℕ → Next Trees → ℕ → List ℕ → Type 0
HasForms name bytes next status text =
    ((read : Trees) × forms.Reads bytes read × next read status text)
    ⊎ TellsFault form_word (forms.FaultAt bytes) name status text

-- the events of a trace that says these names, or its first wrong line
abbrev pub Traces : TraceNames → List ℕ → List ℕ → Next (List Event) → ℕ → List ℕ → Type 0
Traces names name bytes next status text =
    ((events : List Event) × Trace names bytes events × next events status text)
    ⊎ TellsFault trace_word (TraceFaultAt names bytes) name status text
