-- What the parts of the code refuse, as why a stream is not begun.
use Rattle.kpn_command_stream.proofs.Common.{◌≡◌, ◌∙◌, ℕ, ◌<◌, List, All, map, length, get_or, inl, inr, None, Ok, refl, sym, subst, Document, Refusal, EndKind, NamedEnd, FileWords, IsRefusalOfOutputs, ends_named, file_in, is_end, name_in, StreamRequest, end_numbers, StreamRefusal, stream_words_of, AreWordsRefused, EndWords, IsDeviceRefusal, IsUnnamed, IsUnplaced, IsUnplacedBy, IsUnstreamed, OfCommon, end_words_of, end_words_in, name_for, Words, Sources, Sinks, SaysFormat}
use Rattle.kpn_shelf.specs.Shelf.{Aliases}
use Rattle.kpn_command_base.specs.declared.refusal.Refusal.TheVariants as refusal
use Rattle.kpn_command_stream.specs.declared.refusal.StreamRefusal.TheVariants.{Common, Unnamed, SharedInput, FormatWord}
use Rattle.kpn_text_names.specs.Names.{name_at}

module _ (may_alias : Aliases) (request : StreamRequest) where
  -- an output may be written over an input or into another output
  pub output_word : (asked : FileWords) → asked ≡ stream_words_of request → (r : Refusal)
      → IsRefusalOfOutputs may_alias asked r → AreWordsRefused may_alias request r
  output_word asked same r cause = made (subst (λ a. IsRefusalOfOutputs may_alias a r) same cause)
    where
      made : IsRefusalOfOutputs may_alias (stream_words_of request) r → AreWordsRefused may_alias request r
      made (inl trace) = subst (AreWordsRefused may_alias request) (sym trace.0) (inr trace.1)
      made (inr (inl sink)) = subst (AreWordsRefused may_alias request) (sym sink.0) sink.1
      made (inr (inr none)) = subst (AreWordsRefused may_alias request) (sym none) tt

-- by the ends that options name
pub unplaced : (ends : EndKind) (d : Document) (names formats : List (List ℕ)) (named : List NamedEnd)
    → ends_named ends d names ≡ Ok (map (λ end. end.number) named) → (r : StreamRefusal)
    → IsUnplacedBy ends d named (end_numbers (is_end ends) d.tables) formats r
    → IsUnplaced ends d names formats r
unplaced ends d names formats named numbers (Common refusal.NoMemory) cause = tt
unplaced ends d names formats named numbers (Common other) cause = absurd cause
unplaced ends d names formats named numbers (Unnamed these name) cause =
    (cause.0, record { named = named; numbers = numbers; left_out = cause.1 })
unplaced ends d names formats named numbers FormatWord cause = cause
unplaced ends d names formats named numbers SharedInput cause = absurd cause

-- an end without a name is one that is left out
pub unnamed : (ends : EndKind) (d : Document) (named : List NamedEnd) (channels : List ℕ) (formats : List (List ℕ))
    (name : List ℕ) (number : ℕ) → number < length channels → name_for named number (length channels) ≡ None
    → name ≡ name_at d.names.channels (get_or channels number 0) → (r : StreamRefusal) → IsUnnamed ends name r
    → IsUnplacedBy ends d named channels formats r
unnamed ends d named channels formats name number there none called (Common refusal.NoMemory) is = tt
unnamed ends d named channels formats name number there none called (Common other) is = absurd is
unnamed ends d named channels formats name number there none called (Unnamed these own) is =
    (is.0, record { number = number; there = there; none = none; called = is.1 ∙ called })
unnamed ends d named channels formats name number there none called FormatWord is = absurd is
unnamed ends d named channels formats name number there none called SharedInput is = absurd is

apart : Sources ≡ Sinks → ⊥
apart same = cc

-- the options that were taken apart are those of the request
pub are_taken : (words : Words) (request : StreamRequest)
    → map (λ o. o.name.now) words.sources.items ≡ map name_in request.sources
    → map (λ o. o.file.now) words.sources.items ≡ map file_in request.sources
    → map (λ o. o.name.now) words.sinks.items ≡ map name_in request.sinks
    → map (λ o. o.file.now) words.sinks.items ≡ map file_in request.sinks
    → end_words_in words request.formats ≡ end_words_of request
are_taken words request sources inputs sinks outputs = rw (sources, inputs, sinks, outputs) refl

-- so a network is not streamed
module _ (may_alias may_share : Aliases) (d : Document) (words : EndWords) (formats : List (List ℕ))
    (same : formats ≡ words.formats) where
  pub no_sources : (r : StreamRefusal) → IsUnplaced Sources d words.sources formats r
      → IsUnstreamed may_alias may_share d words r
  no_sources (Common (refusal.Names fault)) cause = inl cause
  no_sources (Common refusal.NoMemory) cause = tt
  no_sources (Common other) cause = absurd cause
  no_sources (Unnamed Sources name) cause = cause.1
  no_sources (Unnamed Sinks name) cause = absurd (apart (sym cause.0))
  no_sources FormatWord cause = λ are. cause (subst (All SaysFormat) (sym same) are.0)
  no_sources SharedInput cause = absurd cause

  pub no_sinks : (r : StreamRefusal) → IsUnplaced Sinks d words.sinks formats r
      → IsUnstreamed may_alias may_share d words r
  no_sinks (Common (refusal.Names fault)) cause = inr cause
  no_sinks (Common refusal.NoMemory) cause = tt
  no_sinks (Common other) cause = absurd cause
  no_sinks (Unnamed Sources name) cause = absurd (apart cause.0)
  no_sinks (Unnamed Sinks name) cause = cause.1
  no_sinks FormatWord cause = λ are. cause (subst (All SaysFormat) (sym same) are.0)
  no_sinks SharedInput cause = absurd cause

-- a device is not ready
pub no_device : (may_alias may_share : Aliases) (d : Document) (words : EndWords) (r : StreamRefusal)
    → OfCommon IsDeviceRefusal r → IsUnstreamed may_alias may_share d words r
no_device may_alias may_share d words (Common (refusal.Names fault)) cause = absurd cause
no_device may_alias may_share d words (Common refusal.SinkWord) cause = absurd cause
no_device may_alias may_share d words (Common other) cause = cause
no_device may_alias may_share d words (Unnamed ends name) cause = absurd cause
no_device may_alias may_share d words FormatWord cause = absurd cause
no_device may_alias may_share d words SharedInput cause = absurd cause
