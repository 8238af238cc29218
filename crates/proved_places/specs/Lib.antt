-- What is proved of the places at which names, tags, tokens and payloads go wrong; each statement under document 02's sentence that it renders.
pub mod Places
