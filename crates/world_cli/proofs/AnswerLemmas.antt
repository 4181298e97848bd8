-- What a source tells, and what its bytes are answered.
use Rattle.std.proofs.Common.{◌≡◌, ℕ, ◌+◌, ◌<◌, Bool, true, false, List, [], length, Option, Some, None, refl, sym, ◌∙◌, ap, arith, length-append}
use Rattle.std.specs.Prelude.{codes}
use Rattle.std.specs.Io.KnownBytes.{Consumes}
use Rattle.std.proofs.lemmas.Bool.{lt-ltb, true≢false}
use Rattle.world_cli.specs.Answers.{Answers, answer_to, has_input, max_input, Answer}
use Rattle.command_line.specs.declared.request.Request.{Request}
use Rattle.command_line.specs.declared.request.Request.TheVariants.{Run, Serial, Check, BigJob}

long_answer : (request : Request) (bytes : List ℕ) → has_input request ≡ true → max_input < length bytes
    → answer_to request bytes ≡ record { status = 2; text = codes "fault too long\n" }
long_answer (Run ranks workers map) bytes input long = rw (lt-ltb max_input (length bytes) long) refl
long_answer (Serial ranks map receipts) bytes input long = rw (lt-ltb max_input (length bytes) long) refl
long_answer Check bytes input long = rw (lt-ltb max_input (length bytes) long) refl
long_answer (BigJob number) bytes input long = absurd (true≢false (sym input))

-- a source that gave too many bytes told too many, and that is what is answered
pub too_long_text :
    (request : Request) (left now : Option (List ℕ)) (given text : List ℕ) →
    has_input request ≡ true →
    length given ≡ max_input + 1 →
    Consumes left now given →
    text ≡ codes "fault too long\n" →
    Answers request left 2 text
too_long_text request None now given text input long gone is =
    let answer = long_answer request given input (omega arith) in
    record { bytes = given; told = tt; status = ap (λ (a : Answer). a.status) answer; text = ap (λ (a : Answer). a.text) answer ∙ sym is }
too_long_text request (Some bytes) None given text input long gone is = absurd gone
too_long_text request (Some bytes) (Some rest) given text input long gone is =
    let more : max_input < length bytes = rw gone (omega (arith, length-append given rest)) in
    let answer = long_answer request bytes input more in
    record { bytes = bytes; told = refl; status = ap (λ (a : Answer). a.status) answer; text = ap (λ (a : Answer). a.text) answer ∙ sym is }

-- a request without an input has its answer, whatever the source told
pub needs_no_input : (request : Request) (left : Option (List ℕ)) (status : ℕ) (text : List ℕ) → has_input request ≡ false
    → (answer_to request []).status ≡ status → (answer_to request []).text ≡ text → Answers request left status text
needs_no_input (BigJob number) None status text none is says = record { bytes = []; told = tt; status = is; text = says }
needs_no_input (BigJob number) (Some bytes) status text none is says = record { bytes = bytes; told = refl; status = is; text = says }
needs_no_input (Run ranks workers map) left status text none is says = absurd (true≢false none)
needs_no_input (Serial ranks map receipts) left status text none is says = absurd (true≢false none)
needs_no_input Check left status text none is says = absurd (true≢false none)
